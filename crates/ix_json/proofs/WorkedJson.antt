-- Worked examples: the JSON trees of values, and what trees are read as.
use Rattle.std.proofs.Common.{◌≡◌, [], ◌∷◌, true, refl, negsuc}
use Rattle.std.specs.Prelude.{codes, Ok, Err}
use Rattle.serde_json.specs.Data.{Data, null, boolean, number, string, array, unsigned, negative, no_items, item}
use Rattle.ix_json.specs.JsonTree.{u64_tree, u64_read, i64_tree, i64_read, bool_read, text_read, semantic_read, list_tree, list_read, option_tree, option_read}
use Rattle.ix_semantic_string.specs.SampleRules.{group_name_rules}
use Rattle.ix_relocatable_option.specs.declared.relocatable_option.RelocatableOption.TheVariants as relocatable
use Rattle.ix_json.specs.declared.json.json_fault.JsonFault.TheVariants.{WrongKind, TooLong, BadByte, InvalidContent}

-- `None` is null, and `Some` of 4 is 4
option_tree-None : option_tree u64_tree relocatable.None ≡ null
option_tree-None = refl

option_tree-Some : option_tree u64_tree (relocatable.Some 4) ≡ number (unsigned 4)
option_tree-Some = refl

option_read-null : option_read u64_read null ≡ Ok relocatable.None
option_read-null = refl

option_read-number : option_read u64_read (number (unsigned 4)) ≡ Ok (relocatable.Some 4)
option_read-number = refl

option_read-text : option_read u64_read (string (codes "4")) ≡ Err WrongKind
option_read-text = refl

-- a number below 0 is an `i64` and no `u64`
i64_tree-minus_one : i64_tree (negsuc 0) ≡ number (negative (negsuc 0))
i64_tree-minus_one = refl

u64_read-minus_one : u64_read (number (negative (negsuc 0))) ≡ Err WrongKind
u64_read-minus_one = refl

i64_read-minus_one : i64_read (number (negative (negsuc 0))) ≡ Ok (negsuc 0)
i64_read-minus_one = refl

-- 2 ^ 63 is a `u64` and no `i64`
u64_read-large : u64_read (number (unsigned 9223372036854775808)) ≡ Ok 9223372036854775808
u64_read-large = refl

i64_read-large : i64_read (number (unsigned 9223372036854775808)) ≡ Err WrongKind
i64_read-large = refl

bool_read-true : bool_read (boolean true) ≡ Ok true
bool_read-true = refl

bool_read-number : bool_read (number (unsigned 1)) ≡ Err WrongKind
bool_read-number = refl

-- [80, 443]
abbrev two_numbers : Data
two_numbers = array (item (number (unsigned 80)) (item (number (unsigned 443)) no_items))

list_tree-two : list_tree u64_tree (80 ∷ 443 ∷ []) ≡ two_numbers
list_tree-two = refl

list_read-two : list_read 3 u64_read two_numbers ≡ Ok (80 ∷ 443 ∷ [])
list_read-two = refl

list_read-text : list_read 3 u64_read (string (codes "a")) ≡ Err WrongKind
list_read-text = refl

-- [1, "a"] is no list of numbers
list_read-wrong_entry : list_read 3 u64_read (array (item (number (unsigned 1)) (item (string (codes "a")) no_items))) ≡ Err WrongKind
list_read-wrong_entry = refl

-- a lack of room is found before an entry of the wrong kind: ["a", 2, 3, 4] in a vector of three
list_read-no_room : list_read 3 u64_read (array (item (string (codes "a")) (item (number (unsigned 2)) (item (number (unsigned 3)) (item (number (unsigned 4)) no_items))))) ≡ Err TooLong
list_read-no_room = refl

-- the fault of the first entry that has one: ["abcd", 1] as texts of at most three bytes
list_read-first_fault : list_read 3 (text_read 3) (array (item (string (codes "abcd")) (item (number (unsigned 1)) no_items))) ≡ Err TooLong
list_read-first_fault = refl

-- a lack of room is found before a bad byte
text_read-whole : text_read 3 (string (codes "abc")) ≡ Ok (codes "abc")
text_read-whole = refl

text_read-no_room : text_read 1 (string (97 ∷ 0 ∷ [])) ≡ Err TooLong
text_read-no_room = refl

text_read-zero : text_read 3 (string (97 ∷ 0 ∷ [])) ≡ Err BadByte
text_read-zero = refl

text_read-null : text_read 3 null ≡ Err WrongKind
text_read-null = refl

-- and both before the rules judge the text
semantic_read-name : semantic_read 31 group_name_rules (string (codes "a1")) ≡ Ok (codes "a1")
semantic_read-name = refl

semantic_read-no_name : semantic_read 31 group_name_rules (string (codes "1a")) ≡ Err InvalidContent
semantic_read-no_name = refl

semantic_read-no_room : semantic_read 1 group_name_rules (string (codes "1a")) ≡ Err TooLong
semantic_read-no_room = refl
