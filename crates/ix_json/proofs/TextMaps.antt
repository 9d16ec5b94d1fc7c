-- A flat map from texts to values: its items in the order of their keys, and the map that they are taken out of and put back into.
use Rattle.std.proofs.Common.{◌≡◌, ℕ, suc, ◌+◌, ◌≤◌, List, [], ◌∷◌, length, map, set, Option, Some, None, IsSome, Bool, true, false, Ordering, Less, Equal, Greater, refl, sym, ap, ◌∙◌, subst, inl, inr, arith}
use Rattle.std.proofs.lemmas.Bool.{cases_Bool}
use Rattle.std.proofs.lemmas.Bool.Decides.{nat_tests}
use Rattle.std.proofs.lemmas.Cmp.{nat_list_cmp_total, nat_list_eq_equiv}
use Rattle.std.proofs.lemmas.List.{set-set, set-get_or, length-set}
use Rattle.std.proofs.lemmas.Map.Text.{is_eq-slice_cmp}
use Rattle.std.proofs.lemmas.Slice.Eq.{bytes_eq-Decides}
use Rattle.std.specs.BTreeMap.{insert_entry}
use Rattle.std.specs.Cmp.{IsEquivalence}
use Rattle.std.specs.Cmp.Lexicographic.{pointwise, slice_cmp}
use Rattle.std.specs.List.{AllByRecursion, fold}
use Rattle.std.specs.List.Sorted.{IsStrictlySortedBy}
use Rattle.std.specs.Map.{keys_of}
use Rattle.std.specs.Option.{option_map_or}
use Rattle.std.specs.Ordering.{is_eq, nat_cmp, match_ordering, ordering_reverse}
use Rattle.std.specs.Prelude.{◌==◌, nat_eq, if◌then◌else◌, is_some, option_map, slice_get}
use Rattle.ix_tables.specs.Places.{place_at}
use Rattle.ix_slottable.specs.SlotTableState.{SlotTableState, entries_from, slot_table_new}
use Rattle.ix_slottable.specs.SlotTableSteps.{slot_table_vacate, slot_table_fill, slot_table_insert, keys_without}
use Rattle.ix_flatmap.specs.MapState.{HasDistinctKeys, map_entry, map_value, map_item, map_items}
use Rattle.ix_flatmap.specs.MapSteps.{map_insert, map_remove}
use Rattle.ix_flatmap.specs.declared.flatmap.Pair.{Pair}
use Rattle.ix_slottable.proofs.SlotTableSteps.{SlotTableRemove-vacated}
use Rattle.ix_flatmap.proofs.MapEntries.{IsEntry-map_entry, map_entry-absent, map_value-IsEntry}
use Rattle.ix_flatmap.proofs.MapSteps.{HasDistinctKeys-removed, map_value-removed, map_value-removed_other}
use Rattle.ix_tables.proofs.VacantTables.{place_at-replicate}
use Rattle.ix_json.specs.JsonTree.{TextMap, map_with, by_key, map_without}

module _ {K V : Type 0} (eq : K → K → Bool) (laws : IsEquivalence eq) where
  -- what is left of a map without a key
  record IsWithout (s : SlotTableState (Pair K V)) (key : K) (new : SlotTableState (Pair K V)) : Type 0 where
    distinct : HasDistinctKeys eq new
    gone : map_value eq new key ≡ None
    kept : (other : K) → eq other key ≡ false → map_value eq new other ≡ map_value eq s other

  module _ (s : SlotTableState (Pair K V)) (key : K) (distinct : HasDistinctKeys eq s) where
    map_remove-found : (found : Option (ℕ × Pair K V)) → map_entry eq s key ≡ found → map_remove eq s key ≡ option_map_or (λ (entry : ℕ × Pair K V). slot_table_vacate s entry.0) found s
    map_remove-found found is = ap (λ found. option_map_or (λ (entry : ℕ × Pair K V). slot_table_vacate s entry.0) found s) is

    IsWithout-map_remove : IsWithout s key (map_remove eq s key)
    IsWithout-map_remove = go (map_entry eq s key) refl
      where
        go : (found : Option (ℕ × Pair K V)) → map_entry eq s key ≡ found → IsWithout s key (map_remove eq s key)
        go None none = subst (IsWithout s key) (sym (map_remove-found None none)) (record {
          distinct = distinct;
          gone = ap (option_map (λ (e : ℕ × Pair K V). e.1.value)) none;
          kept = λ other differs. refl;
        })
        go (Some entry) some =
            let left = slot_table_vacate s entry.0 in
            let step = SlotTableRemove-vacated s entry.0 entry.1 left (IsEntry-map_entry eq s key entry some).at refl in
            let has : Some entry.0 ≡ option_map (λ (e : ℕ × Pair K V). e.0) (map_entry eq s key) = sym (ap (option_map (λ (e : ℕ × Pair K V). e.0)) some) in
            subst (IsWithout s key) (sym (map_remove-found (Some entry) some)) (record {
              distinct = HasDistinctKeys-removed eq laws s left key entry.0 entry.1 has step distinct;
              gone = map_value-removed eq laws s left key entry.0 entry.1 has step distinct;
              kept = λ other differs. map_value-removed_other eq laws s left key entry.0 entry.1 has step distinct other differs;
            })

    -- a key that was removed is inserted again with its value: the map is what it was
    map_insert-again : (value : V) (place : ℕ) → map_entry eq s key ≡ Some (place, record { key = key; value = value }) → map_insert eq (map_remove eq s key) key value ≡ s
    map_insert-again value place found =
        let pair : Pair K V = record { key = key; value = value } in
        let left = slot_table_vacate s place in
        let is : map_remove eq s key ≡ left = map_remove-found (Some (place, pair)) found in
        let none : map_entry eq left key ≡ None =
        map_entry-absent eq left key (λ some. let no = subst IsSome (ap (λ t. map_value eq t key) (sym is) ∙ IsWithout-map_remove.gone) some in cc) in
        let at = (IsEntry-map_entry eq s key (place, pair) found).at in
        let values = set-set s.values place None (Some pair) ∙ ap (set s.values place) (sym at) ∙ set-get_or s.values place None in
        let yes : nat_eq place place ≡ true = grind (arith, nat_tests) in
        let free = ap (λ b. if b then s.free else place ∷ keys_without place s.free) yes in
        ap (λ t. map_insert eq t key value) is
        ∙ ap (λ found. if is_some found then left else slot_table_insert left pair) none
        ∙ (λ i. record { values = values i; free = free i })

abbrev pub same : List ℕ → List ℕ → Bool
same = pointwise ◌==◌

pub tied_is : (k l : List ℕ) → slice_cmp nat_cmp k l ≡ Equal → k ≡ l
tied_is k l is = (bytes_eq-Decides k l).0 (sym (is_eq-slice_cmp k l) ∙ ap is_eq is)

all_above : (k l : List ℕ) (ys : List (List ℕ)) → slice_cmp nat_cmp k l ≡ Less → AllByRecursion (λ y. slice_cmp nat_cmp l y ≡ Less) ys → AllByRecursion (λ y. slice_cmp nat_cmp k y ≡ Less) ys
all_above k l [] less below = tt
all_above k l (y ∷ ys) less below = (nat_list_cmp_total.trans k l y less below.0, all_above k l ys less below.1)

module _ {V : Type 0} where
  -- ---- the items in the order of their keys

  module _ (k : List ℕ) (v : V) where
    All-insert_entry : (P : List ℕ × V → Type 0) (es : List (List ℕ × V)) → AllByRecursion P es → P (k, v) → AllByRecursion P (insert_entry (slice_cmp nat_cmp) es k v)
    All-insert_entry P [] all this = (this, tt)
    All-insert_entry P (e ∷ es) all this = by (slice_cmp nat_cmp k e.0) refl (All-insert_entry P es all.1 this)
      where
        by : (r : Ordering) → slice_cmp nat_cmp k e.0 ≡ r → AllByRecursion P (insert_entry (slice_cmp nat_cmp) es k v)
            → AllByRecursion P (match_ordering r ((k, v) ∷ e ∷ es) ((e.0, v) ∷ es) (e ∷ insert_entry (slice_cmp nat_cmp) es k v))
        by Less is later = (this, all)
        by Equal is later = (subst (λ l. P (l, v)) (tied_is k e.0 is) this, all.1)
        by Greater is later = (all.0, later)

    below-insert_entry : (x : List ℕ) (es : List (List ℕ × V)) → AllByRecursion (λ y. slice_cmp nat_cmp x y ≡ Less) (keys_of es) → slice_cmp nat_cmp x k ≡ Less
        → AllByRecursion (λ y. slice_cmp nat_cmp x y ≡ Less) (keys_of (insert_entry (slice_cmp nat_cmp) es k v))
    below-insert_entry x [] below less = (less, tt)
    below-insert_entry x (e ∷ es) below less = by (slice_cmp nat_cmp k e.0) (below-insert_entry x es below.1 less)
      where
        by : (r : Ordering) → AllByRecursion (λ y. slice_cmp nat_cmp x y ≡ Less) (keys_of (insert_entry (slice_cmp nat_cmp) es k v))
            → AllByRecursion (λ y. slice_cmp nat_cmp x y ≡ Less) (keys_of (match_ordering r ((k, v) ∷ e ∷ es) ((e.0, v) ∷ es) (e ∷ insert_entry (slice_cmp nat_cmp) es k v)))
        by Less later = (less, below)
        by Equal later = below
        by Greater later = (below.0, later)

    sorted-insert_entry : (es : List (List ℕ × V)) → IsStrictlySortedBy (slice_cmp nat_cmp) (keys_of es) → IsStrictlySortedBy (slice_cmp nat_cmp) (keys_of (insert_entry (slice_cmp nat_cmp) es k v))
    unfolding IsStrictlySortedBy
    sorted-insert_entry [] sorted = (tt, tt)
    sorted-insert_entry (e ∷ es) sorted = by (slice_cmp nat_cmp k e.0) refl (sorted-insert_entry es sorted.1)
      where
        by : (r : Ordering) → slice_cmp nat_cmp k e.0 ≡ r → IsStrictlySortedBy (slice_cmp nat_cmp) (keys_of (insert_entry (slice_cmp nat_cmp) es k v))
            → IsStrictlySortedBy (slice_cmp nat_cmp) (keys_of (match_ordering r ((k, v) ∷ e ∷ es) ((e.0, v) ∷ es) (e ∷ insert_entry (slice_cmp nat_cmp) es k v)))
        by Less is later = ((is, all_above k e.0 (keys_of es) is sorted.0), sorted)
        by Equal is later = sorted
        by Greater is later = (below-insert_entry e.0 es sorted.0 (nat_list_cmp_total.antisymm e.0 k ∙ ap ordering_reverse is), later)

    length-insert_entry : (es : List (List ℕ × V)) → length (insert_entry (slice_cmp nat_cmp) es k v) ≤ suc (length es)
    length-insert_entry [] = omega arith
    length-insert_entry (e ∷ es) = by (slice_cmp nat_cmp k e.0) (length-insert_entry es)
      where
        by : (r : Ordering) → length (insert_entry (slice_cmp nat_cmp) es k v) ≤ suc (length es)
            → length (match_ordering r ((k, v) ∷ e ∷ es) ((e.0, v) ∷ es) (e ∷ insert_entry (slice_cmp nat_cmp) es k v)) ≤ suc (length (e ∷ es))
        by Less later = omega arith
        by Equal later = omega arith
        by Greater later = omega (arith, later)

  -- items are put among sorted ones, each at its key
  abbrev pub sorted_with : List (List ℕ × V) → List (List ℕ × V) → List (List ℕ × V)
  sorted_with es items = fold (λ sorted item. insert_entry (slice_cmp nat_cmp) sorted item.0 item.1) es items

  All-sorted_with : (P : List ℕ × V → Type 0) (es items : List (List ℕ × V)) → AllByRecursion P es → AllByRecursion P items → AllByRecursion P (sorted_with es items)
  All-sorted_with P es [] first second = first
  All-sorted_with P es (item ∷ items) first second = All-sorted_with P (insert_entry (slice_cmp nat_cmp) es item.0 item.1) items (All-insert_entry item.0 item.1 P es first second.0) second.1

  -- what holds of all items holds of them in the order of their keys
  pub All-by_key : (P : List ℕ × V → Type 0) (items : List (List ℕ × V)) → AllByRecursion P items → AllByRecursion P (by_key items)
  All-by_key P items all = All-sorted_with P [] items tt all

  sorted-sorted_with : (es items : List (List ℕ × V)) → IsStrictlySortedBy (slice_cmp nat_cmp) (keys_of es) → IsStrictlySortedBy (slice_cmp nat_cmp) (keys_of (sorted_with es items))
  sorted-sorted_with es [] sorted = sorted
  sorted-sorted_with es (item ∷ items) sorted = sorted-sorted_with (insert_entry (slice_cmp nat_cmp) es item.0 item.1) items (sorted-insert_entry item.0 item.1 es sorted)

  pub sorted-by_key : (items : List (List ℕ × V)) → IsStrictlySortedBy (slice_cmp nat_cmp) (keys_of (by_key items))
  unfolding IsStrictlySortedBy
  sorted-by_key items = sorted-sorted_with [] items tt

  length-sorted_with : (es items : List (List ℕ × V)) → length (sorted_with es items) ≤ length es + length items
  length-sorted_with es [] = omega arith
  length-sorted_with es (item ∷ items) =
      let one = length-insert_entry item.0 item.1 es in
      let more = length-sorted_with (insert_entry (slice_cmp nat_cmp) es item.0 item.1) items in omega arith

  pub length-by_key : (items : List (List ℕ × V)) → length (by_key items) ≤ length items
  length-by_key items = let all = length-sorted_with [] items in omega arith

  -- ---- the map without its items

  HasDistinctKeys-map_without : (s : TextMap V) (items : List (List ℕ × V)) → HasDistinctKeys same s → HasDistinctKeys same (map_without s items)
  HasDistinctKeys-map_without s [] distinct = distinct
  HasDistinctKeys-map_without s (item ∷ items) distinct =
      (IsWithout-map_remove same nat_list_eq_equiv (map_without s items) item.0 (HasDistinctKeys-map_without s items distinct)).distinct

  pub apart_from_sorted : (key : List ℕ) (items : List (List ℕ × V)) → AllByRecursion (λ y. slice_cmp nat_cmp key y ≡ Less) (keys_of items) → AllByRecursion (λ item. same key item.0 ≡ false) items
  apart_from_sorted key [] below = tt
  apart_from_sorted key (item ∷ items) below = (sym (is_eq-slice_cmp key item.0) ∙ ap is_eq below.0, apart_from_sorted key items below.1)

  -- a key that is not among the items keeps its value
  map_value-map_without_other : (s : TextMap V) (items : List (List ℕ × V)) (key : List ℕ) → HasDistinctKeys same s → AllByRecursion (λ item. same key item.0 ≡ false) items → map_value same (map_without s items) key ≡ map_value same s key
  map_value-map_without_other s [] key distinct apart = refl
  map_value-map_without_other s (item ∷ items) key distinct apart =
      (IsWithout-map_remove same nat_list_eq_equiv (map_without s items) item.0 (HasDistinctKeys-map_without s items distinct)).kept key apart.0
      ∙ map_value-map_without_other s items key distinct apart.1

  -- a key that has no value has none after another is removed
  none_stays : (s : TextMap V) (key other : List ℕ) → HasDistinctKeys same s → map_value same s other ≡ None → map_value same (map_remove same s key) other ≡ None
  none_stays s key other distinct none = elim (cases_Bool (same other key)) [
    | inl equal ↦ ap (map_value same (map_remove same s key)) ((bytes_eq-Decides other key).0 equal) ∙ (IsWithout-map_remove same nat_list_eq_equiv s key distinct).gone
    | inr apart ↦ (IsWithout-map_remove same nat_list_eq_equiv s key distinct).kept other apart ∙ none
  ]

  all_stay : (s : TextMap V) (key : List ℕ) (items : List (List ℕ × V)) → HasDistinctKeys same s → AllByRecursion (λ item. map_value same s item.0 ≡ None) items → AllByRecursion (λ item. map_value same (map_remove same s key) item.0 ≡ None) items
  all_stay s key [] distinct none = tt
  all_stay s key (item ∷ items) distinct none = (none_stays s key item.0 distinct none.0, all_stay s key items distinct none.1)

  -- no item is left
  pub gone-map_without : (s : TextMap V) (items : List (List ℕ × V)) → HasDistinctKeys same s → AllByRecursion (λ item. map_value same (map_without s items) item.0 ≡ None) items
  gone-map_without s [] distinct = tt
  gone-map_without s (item ∷ items) distinct =
      let rest = HasDistinctKeys-map_without s items distinct in
      ((IsWithout-map_remove same nat_list_eq_equiv (map_without s items) item.0 rest).gone, all_stay (map_without s items) item.0 items rest (gone-map_without s items distinct))

  pub map_entry-no_value : (s : TextMap V) (key : List ℕ) → map_value same s key ≡ None → map_entry same s key ≡ None
  map_entry-no_value s key none = map_entry-absent same s key (λ some. let no = subst IsSome none some in cc)

  -- the place of a key that has a value
  entry_of : (s : TextMap V) (key : List ℕ) (value : V) → map_value same s key ≡ Some value → (place : ℕ) × (map_entry same s key ≡ Some (place, record { key = key; value = value }))
  entry_of s key value has = go (map_entry same s key) refl has
    where
      go : (found : Option (ℕ × Pair (List ℕ) V)) → map_entry same s key ≡ found → option_map (λ (e : ℕ × Pair (List ℕ) V). e.1.value) found ≡ Some value → (place : ℕ) × (map_entry same s key ≡ Some (place, record { key = key; value = value }))
      go None none has = absurd (cc)
      go (Some entry) some has =
          let value_is : entry.1.value ≡ value = cc in
          let key_is : entry.1.key ≡ key = (bytes_eq-Decides entry.1.key key).0 (IsEntry-map_entry same s key entry some).equal in
          (entry.0, some ∙ (λ i. Some (entry.0, record { key = key_is i; value = value_is i })))

  module _ (s : TextMap V) (distinct : HasDistinctKeys same s) where
    -- the place of an item in the map without those after it
    item_entry : (item : List ℕ × V) (items : List (List ℕ × V)) → AllByRecursion (λ y. slice_cmp nat_cmp item.0 y ≡ Less) (keys_of items) → map_value same s item.0 ≡ Some item.1
        → (place : ℕ) × (map_entry same (map_without s items) item.0 ≡ Some (place, record { key = item.0; value = item.1 }))
    item_entry item items below has =
        entry_of (map_without s items) item.0 item.1 (map_value-map_without_other s items item.0 distinct (apart_from_sorted item.0 items below) ∙ has)

    -- the items are put back where they were
    pub map_with-map_without : (items : List (List ℕ × V)) → IsStrictlySortedBy (slice_cmp nat_cmp) (keys_of items) → AllByRecursion (λ item. map_value same s item.0 ≡ Some item.1) items → map_with (map_without s items) items ≡ s
    unfolding IsStrictlySortedBy
    map_with-map_without [] sorted have = refl
    map_with-map_without (item ∷ items) sorted have =
        let entry = item_entry item items sorted.0 have.0 in
        ap (λ t. map_with t items) (map_insert-again same nat_list_eq_equiv (map_without s items) item.0 (HasDistinctKeys-map_without s items distinct) item.1 entry.0 entry.1)
        ∙ map_with-map_without items sorted.1 have.1

    -- there is room for them
    pub length-map_without : (items : List (List ℕ × V)) → IsStrictlySortedBy (slice_cmp nat_cmp) (keys_of items) → AllByRecursion (λ item. map_value same s item.0 ≡ Some item.1) items → length items ≤ length (map_without s items).free
    unfolding IsStrictlySortedBy
    length-map_without [] sorted have = omega arith
    length-map_without (item ∷ items) sorted have =
        let rest = map_without s items in
        let entry = item_entry item items sorted.0 have.0 in
        let longer : length (map_remove same rest item.0).free ≡ suc (length rest.free) =
        ap (λ (t : TextMap V). length t.free) (map_remove-found same nat_list_eq_equiv rest item.0 (HasDistinctKeys-map_without s items distinct) _ entry.1) in
        let fits = length-map_without items sorted.1 have.1 in omega arith

    values_from : (start : ℕ) (places : List (Option (Pair (List ℕ) V))) → ((i : ℕ) (pair : Pair (List ℕ) V) → place_at places i ≡ Some pair → map_value same s pair.key ≡ Some pair.value)
        → AllByRecursion (λ item. map_value same s item.0 ≡ Some item.1) (map map_item (entries_from start places))
    values_from start [] each = tt
    values_from start (None ∷ places) each = values_from (start + 1) places (λ i. each (suc i))
    values_from start (Some pair ∷ places) each = (each 0 pair refl, values_from (start + 1) places (λ i. each (suc i)))

    -- each item has its value
    pub values-map_items : AllByRecursion (λ item. map_value same s item.0 ≡ Some item.1) (map_items s)
    values-map_items = values_from 0 s.values (λ i pair at. map_value-IsEntry same nat_list_eq_equiv s pair.key i pair distinct at (nat_list_eq_equiv.refl pair.key))

  -- ---- a new map

  pub map_entry-slot_table_new : (capacity : ℕ) (key : List ℕ) → map_entry same (let s : TextMap V = slot_table_new capacity in s) key ≡ None
  map_entry-slot_table_new capacity key = go (map_entry same new key) refl
    where
      new : TextMap V
      new = slot_table_new capacity

      go : (found : Option (ℕ × Pair (List ℕ) V)) → map_entry same new key ≡ found → map_entry same new key ≡ None
      go None none = none
      go (Some entry) some = absurd (let clash : Some entry.1 ≡ None = sym (IsEntry-map_entry same new key entry some).at ∙ place_at-replicate capacity entry.0 in cc)

  length-map_insert : (s : TextMap V) (key : List ℕ) (value : V) → length (map_insert same s key value).values ≡ length s.values
  length-map_insert s key value = go (is_some (map_entry same s key)) (slice_get s.free 0)
    where
      go : (has : Bool) (first : Option ℕ) → length (if has then s else option_map_or (λ place. slot_table_fill s place (record { key = key; value = value })) first s).values ≡ length s.values
      go true first = refl
      go false None = refl
      go false (Some place) = length-set s.values place (Some (record { key = key; value = value }))

  pub length-map_with : (s : TextMap V) (items : List (List ℕ × V)) → length (map_with s items).values ≡ length s.values
  length-map_with s [] = refl
  length-map_with s (item ∷ items) = length-map_with (map_insert same s item.0 item.1) items ∙ length-map_insert s item.0 item.1

  length-items_from : (start : ℕ) (places : List (Option (Pair (List ℕ) V))) → length (map map_item (entries_from start places)) ≤ length places
  length-items_from start [] = omega arith
  length-items_from start (None ∷ places) = let rest = length-items_from (start + 1) places in omega arith
  length-items_from start (Some pair ∷ places) = let rest = length-items_from (start + 1) places in omega arith

  pub length-map_items : (s : TextMap V) → length (map_items s) ≤ length s.values
  length-map_items s = length-items_from 0 s.values
