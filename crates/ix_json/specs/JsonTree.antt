-- The JSON tree of a value, and how a tree is read: as a value, or as the error for which it is none.
use Rattle.std.specs.Prelude.{◌≡◌, ℕ, ℤ, pos, negsuc, ◌-◌, ◌^◌, ◌||◌, nat_le, nat_lt, List, ◌∷◌, [], ◌++◌, length, map, Bool, is_some, ok_or, option_and_then, if◌then◌else◌, Result, Ok, Err}
use Rattle.std.specs.BTreeMap.{insert_entry}
use Rattle.std.specs.List.{fold}
use Rattle.std.specs.Option.{option_map_or}
use Rattle.std.specs.Result.{result_map_both}
use Rattle.serde_json.specs.Data.{Data, null, number, array, object, unsigned, Items, no_items, item, Members, no_members, member, put}
use Rattle.serde_json.specs.Events.{items_len, members_len}
use Rattle.serde_json.specs.Find.{as_null, as_bool, as_number, as_str, as_array, as_object, as_u64, as_i64, of_integer}
use Rattle.serde_json.specs.View.{items_of}
use Rattle.ix_tables.specs.Bounded.{Bounded, with_items}
use Rattle.ix_flatmap.specs.MapState.{map_entry, map_value}
use Rattle.ix_flatmap.specs.MapSteps.{map_insert, map_remove}
use Rattle.ix_slottable.specs.SlotTableState.{SlotTableState}
use Rattle.ix_flatmap.specs.declared.flatmap.Pair.{Pair}
use Rattle.ix_string.specs.Text.{is_text, text_eq, text_cmp}
use Rattle.ix_semantic_string.specs.Rules.{TextRules}
use Rattle.ix_relocatable_option.specs.declared.relocatable_option.RelocatableOption.{RelocatableOption}
use Rattle.ix_relocatable_option.specs.declared.relocatable_option.RelocatableOption.TheVariants as relocatable
use Rattle.ix_json.specs.declared.json.json_fault.JsonFault.{JsonFault}
use Rattle.ix_json.specs.declared.json.json_fault.JsonFault.TheVariants.{WrongKind, TooLong, BadByte, InvalidContent}

abbrev pub u64_tree : ℕ → Data
u64_tree n = number (unsigned n)

-- a number below 0, above the greatest `u64`, or held as a float is of the wrong kind
abbrev pub u64_read : Data → Result ℕ JsonFault
u64_read tree = ok_or (option_and_then as_u64 (as_number tree)) WrongKind

abbrev pub i64_tree : ℤ → Data
i64_tree z = number (of_integer z)

-- a number outside the range of `i64`, or held as a float is of the wrong kind
abbrev pub i64_read : Data → Result ℤ JsonFault
i64_read tree = ok_or (option_and_then as_i64 (as_number tree)) WrongKind

-- the number that was read, if the smaller type has it: one that it has not is of the wrong kind
abbrev pub narrowed : {N : Type 0} → (N → Bool) → Result N JsonFault → Result N JsonFault
narrowed has (Ok n) = if has n then Ok n else Err WrongKind
narrowed has (Err fault) = Err fault

-- a number of an unsigned type of so many bits, fewer than 64
abbrev pub unsigned_read : ℕ → Data → Result ℕ JsonFault
unsigned_read bits tree = narrowed (λ n. nat_lt n (2 ^ bits)) (u64_read tree)

-- a signed type has the number, whose greatest one is 2 ^ bits - 1 and whose least one is -(2 ^ bits)
abbrev pub signed_has : ℕ → ℤ → Bool
signed_has bits (pos n) = nat_lt n (2 ^ bits)
signed_has bits (negsuc n) = nat_lt n (2 ^ bits)

-- a number of such a type
abbrev pub signed_read : ℕ → Data → Result ℤ JsonFault
signed_read bits tree = narrowed (signed_has bits) (i64_read tree)

abbrev pub bool_read : Data → Result Bool JsonFault
bool_read tree = ok_or (as_bool tree) WrongKind

-- the bytes, if there is room for them and they are a string: a lack of room is found before a bad byte
abbrev pub bytes_read : ℕ → List ℕ → Result (List ℕ) JsonFault
bytes_read capacity bytes =
    if nat_le (length bytes) capacity then (if is_text bytes then Ok bytes else Err BadByte) else Err TooLong

-- the bytes of a string
abbrev pub text_read : ℕ → Data → Result (List ℕ) JsonFault
text_read capacity tree = option_map_or (bytes_read capacity) (as_str tree) (Err WrongKind)

-- the bytes that were read, if the rules accept them
abbrev pub accepted_read : TextRules → Result (List ℕ) JsonFault → Result (List ℕ) JsonFault
accepted_read rules (Ok bytes) =
    if rules.invalid_content bytes || rules.invalid_characters bytes then Err InvalidContent else Ok bytes
accepted_read rules (Err fault) = Err fault

-- the bytes of a string that the rules accept: all else is found before it is judged by the rules
abbrev pub semantic_read : ℕ → TextRules → Data → Result (List ℕ) JsonFault
semantic_read capacity rules tree = accepted_read rules (text_read capacity tree)

module _ {T : Type 0} where
  -- an array of the trees of the elements, in order
  abbrev pub list_tree : (T → Data) → List T → Data
  list_tree tree_of items = array (items_of (map tree_of items))

  -- an element in front of the others, or the error of the first that has one
  abbrev pub with_first : Result T JsonFault → Result (List T) JsonFault → Result (List T) JsonFault
  with_first (Ok first) (Ok others) = Ok (first ∷ others)
  with_first (Ok first) (Err fault) = Err fault
  with_first (Err fault) others = Err fault

  -- the elements that the entries are read as, or the error of the first entry that has one
  abbrev pub entries_read : (Data → Result T JsonFault) → Items → Result (List T) JsonFault
  entries_read read no_items = Ok []
  entries_read read (item entry entries) = with_first (read entry) (entries_read read entries)

  -- the elements, if there is room for them: a lack of room is found before an error of an entry
  abbrev pub items_read : ℕ → (Data → Result T JsonFault) → Items → Result (List T) JsonFault
  items_read capacity read entries =
      if nat_le (items_len entries) capacity then entries_read read entries else Err TooLong

  -- the elements of an array
  abbrev pub list_read : ℕ → (Data → Result T JsonFault) → Data → Result (List T) JsonFault
  list_read capacity read tree = option_map_or (items_read capacity read) (as_array tree) (Err WrongKind)

  -- the elements of an array behind those of a bounded list, if there is room for them
  abbrev pub list_filled : (Data → Result T JsonFault) → Bounded T → Data → Result (Bounded T) JsonFault
  list_filled read b tree =
      result_map_both (λ items. with_items b (b.items ++ items)) (λ fault. fault) (list_read (b.capacity - length b.items) read tree)

  -- null, or the tree of the value
  abbrev pub option_tree : (T → Data) → RelocatableOption T → Data
  option_tree tree_of relocatable.None = null
  option_tree tree_of (relocatable.Some x) = tree_of x

  -- no value for null, and otherwise the value that the tree is read as
  abbrev pub option_read : (Data → Result T JsonFault) → Data → Result (RelocatableOption T) JsonFault
  option_read read tree =
      if is_some (as_null tree) then Ok relocatable.None
      else result_map_both relocatable.Some (λ fault. fault) (read tree)

-- a flat map from strings to values
abbrev pub TextMap : Type 0 → Type 0
TextMap V = SlotTableState (Pair (List ℕ) V)

module _ {V : Type 0} where
  -- the members that these pairs are, each put at its key
  abbrev pub item_members : (V → Data) → List (List ℕ × V) → Members
  item_members tree_of items = fold (λ members entry. put entry.0 (tree_of entry.1) members) no_members items

  -- an object with the tree of each value at its key
  abbrev pub object_tree : (V → Data) → List (List ℕ × V) → Data
  object_tree tree_of items = object (item_members tree_of items)

  -- a key with its value, or the error of the key, or else that of the value
  abbrev pub with_key : Result (List ℕ) JsonFault → Result V JsonFault → Result (List ℕ × V) JsonFault
  with_key (Ok key) (Ok value) = Ok (key, value)
  with_key (Ok key) (Err fault) = Err fault
  with_key (Err fault) value = Err fault

  -- the pairs that the members are read as, or the error of the first member that has one
  abbrev pub members_read : (List ℕ → Result (List ℕ) JsonFault) → (Data → Result V JsonFault) → Members → Result (List (List ℕ × V)) JsonFault
  members_read read_key read no_members = Ok []
  members_read read_key read (member key value members) = with_first (with_key (read_key key) (read value)) (members_read read_key read members)

  -- the pairs, if there is room for them: a lack of room is found before an error of a member
  abbrev pub object_read : ℕ → (List ℕ → Result (List ℕ) JsonFault) → (Data → Result V JsonFault) → Data → Result (List (List ℕ × V)) JsonFault
  object_read room read_key read tree =
      option_map_or (λ members. if nat_le (members_len members) room then members_read read_key read members else Err TooLong) (as_object tree) (Err WrongKind)

  -- the key that was read, if the map has no equal one
  abbrev pub new_key : TextMap V → Result (List ℕ) JsonFault → Result (List ℕ) JsonFault
  new_key s (Ok key) = if is_some (map_entry text_eq s key) then Err InvalidContent else Ok key
  new_key s (Err fault) = Err fault

  -- the map with these pairs too, inserted in turn
  abbrev pub map_with : TextMap V → List (List ℕ × V) → TextMap V
  map_with s items = fold (λ s entry. map_insert text_eq s entry.0 entry.1) s items

  -- the map with the pairs of an object too, if there is room for them and it has none of their keys
  abbrev pub object_filled : ℕ → (Data → Result V JsonFault) → TextMap V → Data → Result (TextMap V) JsonFault
  object_filled key_capacity read s tree =
      result_map_both (map_with s) (λ fault. fault) (object_read (length s.free) (λ key. new_key s (bytes_read key_capacity key)) read tree)

  -- the pairs in the order of their keys
  abbrev pub by_key : List (List ℕ × V) → List (List ℕ × V)
  by_key items = fold (λ sorted entry. insert_entry text_cmp sorted entry.0 entry.1) [] items

  -- the map without the keys of these pairs; the last is removed first
  abbrev pub map_without : TextMap V → List (List ℕ × V) → TextMap V
  map_without s [] = s
  map_without s (entry ∷ items) = map_remove text_eq (map_without s items) entry.0

  -- each key has the same value in both maps, or none in both
  abbrev pub HasSameEntries : TextMap V → TextMap V → Type 0
  HasSameEntries s other = (key : List ℕ) → map_value text_eq other key ≡ map_value text_eq s key
