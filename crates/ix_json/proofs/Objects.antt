-- How the members of an object are read, and the map that they are inserted into.
use Rattle.std.proofs.Common.{◌≡◌, ℕ, suc, ◌<◌, ◌≤◌, List, [], ◌∷◌, length, Bool, true, false, Some, None, Ordering, Less, Equal, Greater, refl, sym, ap, ◌∙◌, subst, arith}
use Rattle.std.proofs.lemmas.Bool.{le-leb}
use Rattle.std.proofs.lemmas.Bool.Decides.{nat_tests}
use Rattle.std.proofs.lemmas.List.{length-replicate}
use Rattle.std.proofs.lemmas.List.FromFn.{length-range_with_len}
use Rattle.std.specs.BTreeMap.{insert_entry}
use Rattle.std.specs.Cmp.Lexicographic.{slice_cmp}
use Rattle.std.specs.List.{AllByRecursion, fold}
use Rattle.std.specs.Ordering.{nat_cmp, match_ordering}
use Rattle.std.specs.Prelude.{Result, Ok, Err, IsOk, IfOk, IfErr, OnErr, if◌then◌else◌, is_some, nat_le}
use Rattle.std.specs.Option.{option_map_or}
use Rattle.std.specs.Result.{IsOkAnd, result_map_both}
use Rattle.serde_json.specs.Data.{Data, object, Members, no_members, member, put}
use Rattle.serde_json.specs.Events.{members_len}
use Rattle.serde_json.specs.Find.{as_object}
use Rattle.serde_json.specs.View.{view}
use Rattle.serde_json.specs.declared.value.Value.{Value}
use Rattle.ix_slottable.specs.SlotTableState.{slot_table_new}
use Rattle.ix_flatmap.specs.MapState.{HasDistinctKeys, map_entry, map_value, map_items}
use Rattle.ix_json.specs.JsonTree.{TextMap, bytes_read, with_first, object_tree, with_key, members_read, object_read, new_key, map_with, object_filled, by_key, map_without, HasSameEntries}
use Rattle.ix_json.specs.inner.Objects.{IsItemReadBack}
use Rattle.ix_json.specs.declared.json.json_fault.JsonFault.{JsonFault}
use Rattle.ix_json.specs.declared.json.json_fault.JsonFault.TheVariants.{WrongKind, InvalidContent, TooLong}
use Rattle.ix_json.proofs.NewMaps.{HasSameEntries-map_with}
use Rattle.ix_json.proofs.TextMaps.{same, sorted_with, All-by_key, sorted-by_key, length-by_key, gone-map_without, map_entry-no_value, map_with-map_without, length-map_without, values-map_items, map_entry-slot_table_new, length-map_with, length-map_items}

module _ {V : Type 0} (tree_of : V → Data) where
  -- the members of sorted items
  abbrev members_with : List (List ℕ × V) → Members
  members_with [] = no_members
  members_with (e ∷ es) = member e.0 (tree_of e.1) (members_with es)

  put-members_with : (k : List ℕ) (v : V) (es : List (List ℕ × V)) → put k (tree_of v) (members_with es) ≡ members_with (insert_entry (slice_cmp nat_cmp) es k v)
  put-members_with k v [] = refl
  put-members_with k v (e ∷ es) = by (slice_cmp nat_cmp k e.0) (put-members_with k v es)
    where
      by : (r : Ordering) → put k (tree_of v) (members_with es) ≡ members_with (insert_entry (slice_cmp nat_cmp) es k v)
          → match_ordering r (member k (tree_of v) (members_with (e ∷ es))) (member e.0 (tree_of v) (members_with es)) (member e.0 (tree_of e.1) (put k (tree_of v) (members_with es)))
          ≡ members_with (match_ordering r ((k, v) ∷ e ∷ es) ((e.0, v) ∷ es) (e ∷ insert_entry (slice_cmp nat_cmp) es k v))
      by Less later = refl
      by Equal later = refl
      by Greater later = ap (member e.0 (tree_of e.1)) later

  item_members-sorted : (es items : List (List ℕ × V)) → fold (λ members item. put item.0 (tree_of item.1) members) (members_with es) items ≡ members_with (sorted_with es items)
  item_members-sorted es [] = refl
  item_members-sorted es (item ∷ items) =
      ap (λ members. fold (λ members item. put item.0 (tree_of item.1) members) members items) (put-members_with item.0 item.1 es)
      ∙ item_members-sorted (insert_entry (slice_cmp nat_cmp) es item.0 item.1) items

  length-members_with : (es : List (List ℕ × V)) → members_len (members_with es) ≡ length es
  length-members_with [] = refl
  length-members_with (e ∷ es) = ap suc (length-members_with es)

  module _ (read_key : List ℕ → Result (List ℕ) JsonFault) (read : Data → Result V JsonFault) where
    members_read-members_with : (es : List (List ℕ × V)) → AllByRecursion (λ e. (read_key e.0 ≡ Ok e.0) × (read (tree_of e.1) ≡ Ok e.1)) es → members_read read_key read (members_with es) ≡ Ok es
    members_read-members_with [] all = refl
    members_read-members_with (e ∷ es) all =
        ap (λ key. with_first (with_key key (read (tree_of e.1))) (members_read read_key read (members_with es))) all.0.0
        ∙ ap (λ value. with_first (with_key (Ok e.0) value) (members_read read_key read (members_with es))) all.0.1
        ∙ ap (with_first (Ok e)) (members_read-members_with es all.1)

    -- the object of items that are read back is read as the items in the order of their keys
    object_read-tree : (room : ℕ) (items : List (List ℕ × V)) → length (by_key items) ≤ room → AllByRecursion (λ e. (read_key e.0 ≡ Ok e.0) × (read (tree_of e.1) ≡ Ok e.1)) (by_key items)
        → object_read room read_key read (object_tree tree_of items) ≡ Ok (by_key items)
    object_read-tree room items fits all =
        let sorted = item_members-sorted [] items in
        let many : members_len (members_with (by_key items)) ≤ room = let counted = length-members_with (by_key items) in omega arith in
        ap (λ members. object_read room read_key read (object members)) sorted
        ∙ ap (λ b. if b then members_read read_key read (members_with (by_key items)) else Err TooLong) (le-leb _ _ many)
        ∙ members_read-members_with (by_key items) all

  module _ (key_capacity : ℕ) (read : Data → Result V JsonFault) where
    -- items whose keys a map has not are read as themselves
    all_new : (s : TextMap V) (es : List (List ℕ × V)) → AllByRecursion (IsItemReadBack key_capacity tree_of read) es → AllByRecursion (λ e. map_entry same s e.0 ≡ None) es
        → AllByRecursion (λ e. (new_key s (bytes_read key_capacity e.0) ≡ Ok e.0) × (read (tree_of e.1) ≡ Ok e.1)) es
    all_new s [] back none = tt
    all_new s (e ∷ es) back none = (
      (ap (new_key s) back.0.0 ∙ ap (λ found. if is_some found then Err InvalidContent else Ok e.0) none.0, back.0.1),
      all_new s es back.1 none.1,
    )

    all_absent : (s : TextMap V) (es : List (List ℕ × V)) → AllByRecursion (λ e. map_value same s e.0 ≡ None) es → AllByRecursion (λ e. map_entry same s e.0 ≡ None) es
    all_absent s [] none = tt
    all_absent s (e ∷ es) none = (map_entry-no_value s e.0 none.0, all_absent s es none.1)

    all_absent-slot_table_new : (capacity : ℕ) (es : List (List ℕ × V)) → AllByRecursion (λ e. map_entry same (let s : TextMap V = slot_table_new capacity in s) e.0 ≡ None) es
    all_absent-slot_table_new capacity [] = tt
    all_absent-slot_table_new capacity (e ∷ es) = (map_entry-slot_table_new capacity e.0, all_absent-slot_table_new capacity es)

    module _ (s : TextMap V) (back : AllByRecursion (IsItemReadBack key_capacity tree_of read) (map_items s)) where
      -- the map without its items takes them in again
      pub object_filled-map_without : HasDistinctKeys same s → object_filled key_capacity read (map_without s (by_key (map_items s))) (object_tree tree_of (map_items s)) ≡ Ok s
      object_filled-map_without distinct =
          let items = by_key (map_items s) in
          let empty = map_without s items in
          let sorted = sorted-by_key (map_items s) in
          let values = All-by_key (λ item. map_value same s item.0 ≡ Some item.1) (map_items s) (values-map_items s distinct) in
          let new = all_new empty items (All-by_key (IsItemReadBack key_capacity tree_of read) (map_items s) back) (all_absent empty items (gone-map_without s items distinct)) in
          ap (result_map_both (map_with empty) (λ fault. fault)) (object_read-tree (λ key. new_key empty (bytes_read key_capacity key)) read (length empty.free) (map_items s) (length-map_without s distinct items sorted values) new)
          ∙ ap Ok (map_with-map_without s distinct items sorted values)

      -- a new map takes in the items in the order of their keys, if there is room for them
      object_filled-new : (capacity : ℕ) → length (map_items s) ≤ capacity → object_filled key_capacity read (slot_table_new capacity) (object_tree tree_of (map_items s)) ≡ Ok (map_with (slot_table_new capacity) (by_key (map_items s)))
      object_filled-new capacity fits =
          let items = by_key (map_items s) in
          let empty : TextMap V = slot_table_new capacity in
          let new = all_new empty items (All-by_key (IsItemReadBack key_capacity tree_of read) (map_items s) back) (all_absent-slot_table_new capacity items) in
          let free : length empty.free ≡ capacity = length-range_with_len 0 capacity in
          let fewer = length-by_key (map_items s) in
          ap (result_map_both (map_with empty) (λ fault. fault)) (object_read-tree (λ key. new_key empty (bytes_read key_capacity key)) read (length empty.free) (map_items s) (omega arith) new)

      -- a map that a new one becomes by its items in the order of their keys is read back
      pub object_filled-slot_table_new : (capacity : ℕ) → map_with (slot_table_new capacity) (by_key (map_items s)) ≡ s → object_filled key_capacity read (slot_table_new capacity) (object_tree tree_of (map_items s)) ≡ Ok s
      object_filled-slot_table_new capacity is =
          let empty : TextMap V = slot_table_new capacity in
          let places : length s.values ≡ length empty.values = ap (λ (t : TextMap V). length t.values) (sym is) ∙ length-map_with empty (by_key (map_items s)) in
          let all_places : length empty.values ≡ capacity = length-replicate capacity None in
          let few = length-map_items s in
          object_filled-new capacity (omega arith) ∙ ap Ok is

      -- whatever its places are, the new map has the same entries
      pub object_filled-same_entries : HasDistinctKeys same s → (capacity : ℕ) → length (map_items s) ≤ capacity
          → IsOkAnd (object_filled key_capacity read (slot_table_new capacity) (object_tree tree_of (map_items s))) (HasSameEntries s)
      object_filled-same_entries distinct capacity fits =
          subst (λ r. IsOkAnd r (HasSameEntries s)) (sym (object_filled-new capacity fits)) (HasSameEntries-map_with s distinct capacity fits)

      -- the same where the number of places is that of the new map
      pub object_filled-same_places : HasDistinctKeys same s → (capacity : ℕ) → length s.values ≡ capacity
          → IsOkAnd (object_filled key_capacity read (slot_table_new capacity) (object_tree tree_of (map_items s))) (HasSameEntries s)
      object_filled-same_places distinct capacity is = let few = length-map_items s in object_filled-same_entries distinct capacity (omega arith)

-- ---- members that are read in turn

abbrev fine : Result (Unit {0}) JsonFault
fine = Ok tt

-- what is left of items that are read to see whether they have a fault
abbrev pub read_so : {V : Type 0} → List (List ℕ × V) → Unit {0}
read_so items = tt

module _ {V : Type 0} (read_key : List ℕ → Result (List ℕ) JsonFault) (read : Data → Result V JsonFault) where
  -- what the members make, if none has a fault
  abbrev pub members_make : {X : Type 0} → (List (List ℕ × V) → X) → Members → Result X JsonFault
  members_make f members = result_map_both f (λ fault. fault) (members_read read_key read members)

  module _ {X : Type 0} (f : List (List ℕ × V) → X) (name : List ℕ) (entry : Data) (members : Members) where
    pub members_make-fault_of_key : (fault : JsonFault) → read_key name ≡ Err fault → members_make f (member name entry members) ≡ Err fault
    members_make-fault_of_key fault is = ap (λ key. result_map_both f (λ fault. fault) (with_first (with_key key (read entry)) (members_read read_key read members))) is

    module _ (key : List ℕ) (key_is : read_key name ≡ Ok key) where
      pub members_make-fault : (fault : JsonFault) → read entry ≡ Err fault → members_make f (member name entry members) ≡ Err fault
      members_make-fault fault is =
          ap (λ key. result_map_both f (λ fault. fault) (with_first (with_key key (read entry)) (members_read read_key read members))) key_is
          ∙ ap (λ value. result_map_both f (λ fault. fault) (with_first (with_key (Ok key) value) (members_read read_key read members))) is

      pub members_make-next : (value : V) → read entry ≡ Ok value → members_make f (member name entry members) ≡ members_make (λ items. f ((key, value) ∷ items)) members
      members_make-next value is =
          ap (λ key. result_map_both f (λ fault. fault) (with_first (with_key key (read entry)) (members_read read_key read members))) key_is
          ∙ ap (λ value. result_map_both f (λ fault. fault) (with_first (with_key (Ok key) value) (members_read read_key read members))) is
          ∙ by (members_read read_key read members)
        where
          by : (rest : Result (List (List ℕ × V)) JsonFault) → result_map_both f (λ fault. fault) (with_first (Ok (key, value)) rest) ≡ result_map_both (λ items. f ((key, value) ∷ items)) (λ fault. fault) rest
          by (Ok items) = refl
          by (Err fault) = refl

module _ {V : Type 0} (s : TextMap V) where
  abbrev tested : Bool → List ℕ → Result (List ℕ) JsonFault
  tested has key = if has then Err InvalidContent else Ok key

  new_key-old : (read_key : Result (List ℕ) JsonFault) (key : List ℕ) → new_key s read_key ≡ Ok key → read_key ≡ Ok key
  new_key-old (Err fault) key is = absurd (cc)
  new_key-old (Ok other) key is = by (is_some (map_entry same s other)) is
    where
      by : (has : Bool) → tested has other ≡ Ok key → tested false other ≡ Ok key
      by true is = absurd (cc)
      by false is = is

  module _ (read_key : List ℕ → Result (List ℕ) JsonFault) (read : Data → Result V JsonFault) where
    -- members with new keys are read as they are without a map
    members_read-old : (members : Members) (items : List (List ℕ × V)) → members_read (λ key. new_key s (read_key key)) read members ≡ Ok items → members_read read_key read members ≡ Ok items
    members_read-old no_members items is = is
    members_read-old (member name entry members) items is = by (new_key s (read_key name)) refl (read entry) refl (members_read (λ key. new_key s (read_key key)) read members) refl (members_read-old members) is
      where
        by : (key : Result (List ℕ) JsonFault) → new_key s (read_key name) ≡ key → (value : Result V JsonFault) → read entry ≡ value → (rest : Result (List (List ℕ × V)) JsonFault) → members_read (λ key. new_key s (read_key key)) read members ≡ rest
            → ((others : List (List ℕ × V)) → members_read (λ key. new_key s (read_key key)) read members ≡ Ok others → members_read read_key read members ≡ Ok others)
            → with_first (with_key key value) rest ≡ Ok items → members_read read_key read (member name entry members) ≡ Ok items
        by (Err fault) key_is value value_is rest rest_is later is = absurd (cc)
        by (Ok key) key_is (Err fault) value_is rest rest_is later is = absurd (cc)
        by (Ok key) key_is (Ok value) value_is (Err fault) rest_is later is = absurd (cc)
        by (Ok key) key_is (Ok value) value_is (Ok others) rest_is later is =
            ap (λ key. with_first (with_key key (read entry)) (members_read read_key read members)) (new_key-old (read_key name) key key_is)
            ∙ ap (λ value. with_first (with_key (Ok key) value) (members_read read_key read members)) value_is
            ∙ ap (with_first (Ok (key, value))) (later others rest_is)
            ∙ is

    -- once all keys are found to be new, the members make of the map what they make without that test
    pub members_make-checked : {X : Type 0} (f : List (List ℕ × V) → X) (members : Members) → fine ≡ members_make (λ key. new_key s (read_key key)) read read_so members
        → members_make (λ key. new_key s (read_key key)) read f members ≡ members_make read_key read f members
    members_make-checked f members checked = by (members_read (λ key. new_key s (read_key key)) read members) refl checked
      where
        by : (rest : Result (List (List ℕ × V)) JsonFault) → members_read (λ key. new_key s (read_key key)) read members ≡ rest → fine ≡ result_map_both read_so (λ fault. fault) rest
            → members_make (λ key. new_key s (read_key key)) read f members ≡ members_make read_key read f members
        by (Err fault) rest_is checked = absurd (cc)
        by (Ok items) rest_is checked = ap (result_map_both f (λ fault. fault)) (rest_is ∙ sym (members_read-old members items rest_is))

    pub IsOk-checked : {X : Type 0} (f : List (List ℕ × V) → X) (members : Members) → fine ≡ members_make (λ key. new_key s (read_key key)) read read_so members
        → IsOk (members_make read_key read f members)
    IsOk-checked f members checked = by (members_read (λ key. new_key s (read_key key)) read members) refl checked
      where
        by : (rest : Result (List (List ℕ × V)) JsonFault) → members_read (λ key. new_key s (read_key key)) read members ≡ rest → fine ≡ result_map_both read_so (λ fault. fault) rest → IsOk (members_make read_key read f members)
        by (Err fault) rest_is checked = absurd (cc)
        by (Ok items) rest_is checked = rw (members_read-old members items rest_is) refl

module _ {V : Type 0} (read_key : List ℕ → Result (List ℕ) JsonFault) (read : Data → Result V JsonFault) where
  -- a fault is that of the members, whatever they would make
  pub members_make-same_fault : {X Y : Type 0} (f : List (List ℕ × V) → X) (other : List (List ℕ × V) → Y) (members : Members) (fault : JsonFault) → Err fault ≡ members_make read_key read f members → members_make read_key read other members ≡ Err fault
  members_make-same_fault {X = X} {Y = Y} f other members fault is = by (members_read read_key read members) is
    where
      by : (rest : Result (List (List ℕ × V)) JsonFault) → Err fault ≡ result_map_both f (λ fault. fault) rest → result_map_both other (λ fault. fault) rest ≡ Err fault
      by (Ok items) is = absurd (cc)
      by (Err found) is = let same_fault : fault ≡ found = cc in ap Err (sym same_fault)

-- in a new map each key is new
pub new_key-slot_table_new : (V : Type 0) (capacity : ℕ) (key : Result (List ℕ) JsonFault) → new_key (let s : TextMap V = slot_table_new capacity in s) key ≡ key
new_key-slot_table_new V capacity (Ok key) = ap (λ found. if is_some found then Err InvalidContent else Ok key) (map_entry-slot_table_new capacity key)
new_key-slot_table_new V capacity (Err fault) = refl

-- what holds of the tree holds of a value that has it
pub read_back-IfOk : {X : Type 0} (read : Data → Result X JsonFault) (tree : Data) (x : X) (result : Result Value JsonFault) → IfOk result (λ value. view value ≡ tree) → (IsOk result → read tree ≡ Ok x) → IfOk result (λ value. read (view value) ≡ Ok x)
read_back-IfOk read tree x (Ok value) is back = ap read is ∙ back refl
read_back-IfOk read tree x (Err fault) is back = tt

-- ---- objects of more and of fewer members than there is room for

module _ {V : Type 0} (key_capacity : ℕ) (read : Data → Result V JsonFault) (s : TextMap V) (tree : Data) (members : Members) (found : Some members ≡ as_object tree) where
  -- what is read of the object that was found
  object_filled-object : object_filled key_capacity read s tree ≡ object_filled key_capacity read s (object members)
  object_filled-object =
      ap (λ found. result_map_both (map_with s) (λ fault. fault) (option_map_or (λ members. if nat_le (members_len members) (length s.free) then members_read (λ key. new_key s (bytes_read key_capacity key)) read members else Err TooLong) found (Err WrongKind))) (sym found)

  pub object_filled-too_long : length s.free < members_len members → object_filled key_capacity read s tree ≡ Err TooLong
  object_filled-too_long more =
      let no : nat_le (members_len members) (length s.free) ≡ false = grind (arith, nat_tests) in
      object_filled-object
      ∙ ap (λ b. result_map_both (map_with s) (λ fault. fault) (if b then members_read (λ key. new_key s (bytes_read key_capacity key)) read members else Err TooLong)) no

  pub object_filled-members : members_len members ≤ length s.free → object_filled key_capacity read s tree ≡ members_make (λ key. new_key s (bytes_read key_capacity key)) read (map_with s) members
  object_filled-members fits =
      object_filled-object
      ∙ ap (λ b. result_map_both (map_with s) (λ fault. fault) (if b then members_read (λ key. new_key s (bytes_read key_capacity key)) read members else Err TooLong)) (le-leb _ _ fits)

module _ {V : Type 0} (key_capacity : ℕ) (read : Data → Result V JsonFault) (capacity : ℕ) (tree : Data) (members : Members) (found : Some members ≡ as_object tree) where
  pub object_filled-too_long_for_new : capacity < members_len members → object_filled key_capacity read (slot_table_new capacity) tree ≡ Err TooLong
  object_filled-too_long_for_new more =
      let free = length-range_with_len 0 capacity in
      object_filled-too_long key_capacity read (slot_table_new capacity) tree members found (omega arith)

  -- a new map takes in whatever members are read as
  pub object_filled-members_for_new : (new : TextMap V) → new ≡ slot_table_new capacity → members_len members ≤ capacity → object_filled key_capacity read (slot_table_new capacity) tree ≡ members_make (bytes_read key_capacity) read (map_with new) members
  object_filled-members_for_new new is fits =
      let free = length-range_with_len 0 capacity in
      let keys : (λ (key : List ℕ). new_key (let s : TextMap V = slot_table_new capacity in s) (bytes_read key_capacity key)) ≡ bytes_read key_capacity = λ i key. new_key-slot_table_new V capacity (bytes_read key_capacity key) i in
      object_filled-members key_capacity read (slot_table_new capacity) tree members found (omega arith)
      ∙ ap (λ read_key. members_make read_key read (map_with (slot_table_new capacity)) members) keys
      ∙ ap (λ t. members_make (bytes_read key_capacity) read (map_with t) members) (sym is)

module _ {X Y : Type 0} (result : Result Y JsonFault) (made : Result X JsonFault) where
  pub IfErr-same : (whole : Result X JsonFault) → whole ≡ made → IfErr result (λ fault. made ≡ Err fault) → IfErr result (λ fault. whole ≡ Err fault)
  IfErr-same whole same is = by result is
    where
      by : (result : Result Y JsonFault) → IfErr result (λ fault. made ≡ Err fault) → IfErr result (λ fault. whole ≡ Err fault)
      by (Ok y) is = tt
      by (Err fault) is = same ∙ is

-- what has no fault is not refused
module _ {X Y : Type 0} (P : Type 0) (result : Result Y JsonFault) (made : Result X JsonFault) where
  pub OnErr-never : IsOk made → IfErr result (λ fault. made ≡ Err fault) → OnErr result P
  OnErr-never ok is = by result is
    where
      by : (result : Result Y JsonFault) → IfErr result (λ fault. made ≡ Err fault) → OnErr result P
      by (Ok y) is = tt
      by (Err fault) is = absurd (let no = subst IsOk is ok in cc)
