-- Worked examples: the definitions of strings say what users expect.
use Rattle.std.proofs.Common.{ℕ, ◌≡◌, ◌+◌, ◌≤◌, List, [], ◌∷◌, ◌++◌, Bool, true, false, length, refl, ap₂, arith}
use Rattle.std.specs.Prelude.{codes, not, reverse, Some, None, Ok, Err}
use Rattle.std.proofs.lemmas.Fmt.{decimal_digit}
use Rattle.ix_tables.specs.Bounded.{Bounded}
use Rattle.ix_string.specs.Text.{MatchesAt, IsFirstMatch, IsLastMatch, EndsWith, nul_position, before_nul}
use Rattle.ix_string.specs.TextSteps.{text_insert, text_insert_result, IsRangeOf, text_remove_range, StringFromBytes}
use Rattle.ix_string.specs.Retain.{ResultsAt, retained_items, Retains}
use Rattle.ix_string.specs.Escape.{escaped_byte, escaped_text}
use Rattle.ix_string.specs.Debug.{static_debug_text, heap_debug_text}
use Rattle.ix_string.specs.declared.string.modification_error.StringModificationError.TheVariants.{InvalidCharacter, InsertWouldExceedCapacity}
use Rattle.ix_string.proofs.Matches.{OccursAt-MatchesAt}

-- a string with this capacity
abbrev string_of : List ℕ → ℕ → Bounded ℕ
string_of bytes capacity = record { items = bytes; capacity = capacity }

-- `ab` occurs in `abab` at 0 and 2, and not at 1
MatchesAt-front : MatchesAt (codes "abab") (codes "ab") 0
MatchesAt-front = record { front = []; rest = codes "ab"; parts = refl; index = refl }

MatchesAt-back : MatchesAt (codes "abab") (codes "ab") 2
MatchesAt-back = record { front = codes "ab"; rest = []; parts = refl; index = refl }

MatchesAt-middle : MatchesAt (codes "abab") (codes "ab") 1 → ⊥
MatchesAt-middle found = let occurs = OccursAt-MatchesAt (codes "abab") (codes "ab") 1 found in let wrong : 98 + 0 ≡ 97 = occurs.reads 0 (omega arith) in omega arith

-- what occurs at an index ends within the text
within : (text needle : List ℕ) (j : ℕ) → MatchesAt text needle j → j + length needle ≤ length text
within text needle j found = let occurs = OccursAt-MatchesAt text needle j found in occurs.fits

-- so it is found at 0, and from the end at 2
IsFirstMatch-abab : IsFirstMatch (codes "abab") (codes "ab") (Some 0)
IsFirstMatch-abab = (MatchesAt-front, λ j found. omega arith)

IsLastMatch-abab : IsLastMatch (codes "abab") (codes "ab") (Some 2)
IsLastMatch-abab = (MatchesAt-back, λ j found. let fits : j + 2 ≤ 4 = within (codes "abab") (codes "ab") j found in omega arith)

-- no bytes are found at 0, and from the end at the length
IsFirstMatch-no_bytes : IsFirstMatch (codes "abc") [] (Some 0)
IsFirstMatch-no_bytes = (record { front = []; rest = codes "abc"; parts = refl; index = refl }, λ j found. omega arith)

IsLastMatch-no_bytes : IsLastMatch (codes "abc") [] (Some 3)
IsLastMatch-no_bytes =
    (record { front = codes "abc"; rest = []; parts = refl; index = refl }, λ j found. let fits : j + 0 ≤ 3 = within (codes "abc") [] j found in omega arith)

-- a longer text is not found
IsFirstMatch-longer : IsFirstMatch (codes "ab") (codes "abc") None
IsFirstMatch-longer j found = let fits : j + 3 ≤ 2 = within (codes "ab") (codes "abc") j found in absurd (omega arith)

EndsWith-abab : EndsWith (codes "abab") (codes "ab")
EndsWith-abab = (codes "ab", refl)

-- the first zero ends a text, whatever comes after it
nul_position-inside : nul_position (97 ∷ 98 ∷ 0 ∷ 99 ∷ []) ≡ 2
nul_position-inside = refl

nul_position-none : nul_position (97 ∷ 98 ∷ []) ≡ 2
nul_position-none = refl

before_nul-inside : before_nul (97 ∷ 98 ∷ 0 ∷ 99 ∷ []) ≡ codes "ab"
before_nul-inside = refl

text_insert-room : text_insert (string_of (codes "ad") 4) 1 (codes "bc") ≡ string_of (codes "abcd") 4
text_insert-room = refl

text_insert_result-room : text_insert_result (string_of (codes "ad") 4) (codes "bc") ≡ Ok tt
text_insert_result-room = refl

-- a lack of room is refused first, whatever the bytes, and then a byte that is 0 or above 127
text_insert_result-no_room : text_insert_result (string_of (codes "ab") 3) (99 ∷ 0 ∷ []) ≡ Err InsertWouldExceedCapacity
text_insert_result-no_room = refl

text_insert_result-zero : text_insert_result (string_of (codes "ab") 3) (0 ∷ []) ≡ Err InvalidCharacter
text_insert_result-zero = refl

text_insert_result-128 : text_insert_result (string_of (codes "ab") 3) (128 ∷ []) ≡ Err InvalidCharacter
text_insert_result-128 = refl

text_insert_result-127 : text_insert_result (string_of (codes "ab") 3) (127 ∷ []) ≡ Ok tt
text_insert_result-127 = refl

text_insert-refused : text_insert (string_of (codes "ab") 3) 0 (0 ∷ []) ≡ string_of (codes "ab") 3
text_insert-refused = refl

StringFromBytes-no_room : StringFromBytes 1 (0 ∷ 0 ∷ []) (Err InsertWouldExceedCapacity)
StringFromBytes-no_room = omega arith

text_remove_range-two : text_remove_range (string_of (codes "abcd") 4) 1 2 ≡ string_of (codes "ad") 4
text_remove_range-two = refl

-- there is one byte from index 3 on, and no bytes from index 4 on, but there is no index 5
IsRangeOf-end : IsRangeOf (string_of (codes "abcd") 4) 4 0
IsRangeOf-end = omega arith

IsRangeOf-too_many : IsRangeOf (string_of (codes "abcd") 4) 3 2 → ⊥
IsRangeOf-too_many range = let wrong : 5 ≤ 4 = range in omega arith

IsRangeOf-outside : IsRangeOf (string_of (codes "abcd") 4) 5 0 → ⊥
IsRangeOf-outside range = let wrong : 5 ≤ 4 = range in omega arith

-- a closure that returns true and false in turn, and true first
abbrev alternates : Bool → ℕ → Bool → Bool → Type 0
alternates next_result byte result next = (result ≡ next_result) × (next ≡ not next_result)

-- it is called at `d`, `c`, `b` and `a` of `abcd`, and `ac` is left
ResultsAt-abcd : ResultsAt alternates true (reverse (codes "abcd")) (true ∷ false ∷ true ∷ false ∷ []) true
ResultsAt-abcd = (false, (refl, refl), (true, (refl, refl), (false, (refl, refl), (true, (refl, refl), refl))))

retained_items-abcd : retained_items (true ∷ false ∷ true ∷ false ∷ []) (codes "abcd") ≡ codes "ac"
retained_items-abcd = refl

Retains-abcd : Retains alternates true (codes "abcd") (codes "ac")
Retains-abcd = (true ∷ false ∷ true ∷ false ∷ [], true, ResultsAt-abcd, refl)

-- a backslash, and a letter or two digits
escaped_byte-tab : escaped_byte 9 ≡ 92 ∷ 116 ∷ []
escaped_byte-tab = refl

escaped_byte-return : escaped_byte 13 ≡ 92 ∷ 114 ∷ []
escaped_byte-return = refl

escaped_byte-newline : escaped_byte 10 ≡ 92 ∷ 110 ∷ []
escaped_byte-newline = refl

escaped_byte-one : escaped_byte 1 ≡ 92 ∷ 120 ∷ 48 ∷ 49 ∷ []
escaped_byte-one = refl

escaped_byte-31 : escaped_byte 31 ≡ 92 ∷ 120 ∷ 49 ∷ 102 ∷ []
escaped_byte-31 = refl

-- a backslash and the byte 127 stay
escaped_byte-backslash : escaped_byte 92 ≡ 92 ∷ []
escaped_byte-backslash = refl

escaped_byte-127 : escaped_byte 127 ≡ 127 ∷ []
escaped_byte-127 = refl

escaped_text-four : escaped_text (97 ∷ 9 ∷ 98 ∷ 1 ∷ []) ≡ codes "a\\tb\\x01"
escaped_text-four = refl

static_debug_text-ab : static_debug_text 5 (codes "ab") ≡ codes "StaticString<5> { len: 2, data: \"ab\" }"
static_debug_text-ab = ap₂ (λ (capacity len : List ℕ). codes "StaticString<" ++ (capacity ++ (codes "> { len: " ++ (len ++ codes ", data: \"ab\" }"))))
    (decimal_digit 5 (omega arith)) (decimal_digit 2 (omega arith))

heap_debug_text-ab : heap_debug_text (codes "RelocatableString") (string_of (codes "ab") 5) ≡ codes "RelocatableString { capacity: 5, len: 2, data: \"ab\" }"
heap_debug_text-ab = ap₂ (λ (capacity len : List ℕ). codes "RelocatableString { capacity: " ++ (capacity ++ (codes ", len: " ++ (len ++ codes ", data: \"ab\" }"))))
    (decimal_digit 5 (omega arith)) (decimal_digit 2 (omega arith))
