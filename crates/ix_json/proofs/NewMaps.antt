-- A new map that takes in the items of another in the order of their keys: each key has the value that it has there.
use Rattle.std.proofs.Common.{◌≡◌, ℕ, zero, suc, ◌+◌, ◌≤◌, List, [], ◌∷◌, ◌++◌, length, map, cond, Option, Some, None, Bool, true, false, Ordering, Less, Equal, Greater, refl, sym, ap, ◌∙◌, arith}
use Rattle.std.proofs.Math.Seq.{set-append_seam}
use Rattle.std.proofs.lemmas.Bool.Decides.{nat_tests}
use Rattle.std.proofs.lemmas.List.{append-nil, append_assoc, length-append, length-map, map-append}
use Rattle.std.proofs.lemmas.Slice.Eq.{bytes_eq-Decides}
use Rattle.std.specs.BTreeMap.{insert_entry}
use Rattle.std.specs.Cmp.Lexicographic.{slice_cmp}
use Rattle.std.specs.List.{AllByRecursion, range_with_len}
use Rattle.std.specs.List.Sorted.{IsStrictlySortedBy}
use Rattle.std.specs.Map.{keys_of, lookup}
use Rattle.std.specs.Ordering.{nat_cmp, match_ordering}
use Rattle.std.specs.Prelude.{nat_eq, if◌then◌else◌, replicate, slice_set}
use Rattle.ix_slottable.specs.SlotTableState.{entries_from, slot_table_new}
use Rattle.ix_slottable.specs.SlotTableSteps.{keys_without}
use Rattle.ix_flatmap.specs.MapState.{HasDistinctKeys, map_value, map_item, map_items}
use Rattle.ix_flatmap.specs.MapSteps.{map_insert}
use Rattle.ix_flatmap.specs.declared.flatmap.Pair.{Pair}
use Rattle.ix_flatmap.proofs.MapEntries.{lookup-map_items}
use Rattle.ix_flatmap.proofs.MapSteps.{map_insert-fresh}
use Rattle.ix_json.specs.JsonTree.{TextMap, HasSameEntries, map_with, by_key}
use Rattle.ix_json.proofs.TextMaps.{same, tied_is, sorted_with, All-by_key, sorted-by_key, length-by_key, map_entry-no_value, values-map_items, apart_from_sorted}

module _ {V : Type 0} where
  -- the value of the first item with the key
  abbrev value_of : List ℕ → List (List ℕ × V) → Option V
  value_of key items = lookup (λ other. same other key) items

  -- ---- the places of a map that was new, and took in items

  abbrev pair_at : List ℕ × V → Option (Pair (List ℕ) V)
  pair_at item = Some (record { key = item.0; value = item.1 })

  abbrev nothing : Option (Pair (List ℕ) V)
  nothing = None

  -- the first places hold the items, and so many after them are free
  abbrev map_of : List (List ℕ × V) → ℕ → TextMap V
  map_of items free = record { values = map pair_at items ++ replicate free nothing; free = range_with_len (length items) free }

  no_entries : (start n : ℕ) → entries_from start (replicate n nothing) ≡ []
  no_entries start zero = refl
  no_entries start (suc n) = no_entries (start + 1) n

  items_from : (start : ℕ) (items : List (List ℕ × V)) (n : ℕ) → map map_item (entries_from start (map pair_at items ++ replicate n nothing)) ≡ items
  items_from start [] n = ap (map map_item) (no_entries start n)
  items_from start (item ∷ items) n = ap (λ others. item ∷ others) (items_from (start + 1) items n)

  map_value-map_of : (items : List (List ℕ × V)) (n : ℕ) (key : List ℕ) → map_value same (map_of items n) key ≡ value_of key items
  map_value-map_of items n key = sym (lookup-map_items same (map_of items n) key) ∙ ap (value_of key) (items_from 0 items n)

  module _ (items : List (List ℕ × V)) (n : ℕ) (item : List ℕ × V) where
    values-inserted : slice_set (map pair_at items ++ nothing ∷ replicate n nothing) (length items) (pair_at item) ≡ map pair_at (items ++ item ∷ []) ++ replicate n nothing
    values-inserted =
        ap (λ place. slice_set (map pair_at items ++ nothing ∷ replicate n nothing) place (pair_at item)) (sym (length-map items pair_at))
        ∙ set-append_seam (map pair_at items) nothing (replicate n nothing) (pair_at item)
        ∙ sym (append_assoc (map pair_at items) (pair_at item ∷ []) (replicate n nothing))
        ∙ ap (λ places. places ++ replicate n nothing) (sym (map-append pair_at items (item ∷ [])))

    free-inserted : keys_without (length items) (range_with_len (length items) (suc n)) ≡ range_with_len (length (items ++ item ∷ [])) n
    free-inserted =
        let is : nat_eq (length items) (length items) ≡ true = grind (arith, nat_tests) in
        ap (λ b. if b then range_with_len (length items + 1) n else length items ∷ keys_without (length items) (range_with_len (length items + 1) n)) is
        ∙ ap (λ start. range_with_len start n) (sym (length-append items (item ∷ [])))

    -- a new key gets the first free place
    map_insert-map_of : value_of item.0 items ≡ None → map_insert same (map_of items (suc n)) item.0 item.1 ≡ map_of (items ++ item ∷ []) n
    map_insert-map_of new =
        map_insert-fresh same (map_of items (suc n)) item.0 item.1 (map_entry-no_value (map_of items (suc n)) item.0 (map_value-map_of items (suc n) item.0 ∙ new))
        ∙ (λ i. record { values = values-inserted i; free = free-inserted i })

  -- no key of the second items is one of the first
  abbrev AreNew : List (List ℕ × V) → List (List ℕ × V) → Type 0
  AreNew items others = AllByRecursion (λ other. value_of other.0 items ≡ None) others

  AreNew-none : (others : List (List ℕ × V)) → AreNew [] others
  AreNew-none [] = tt
  AreNew-none (other ∷ others) = (refl, AreNew-none others)

  value_of-behind : (items : List (List ℕ × V)) (item : List ℕ × V) (key : List ℕ) → value_of key items ≡ None → same item.0 key ≡ false → value_of key (items ++ item ∷ []) ≡ None
  value_of-behind [] item key none apart = ap (λ b. cond b (Some item.1) (value_of key [])) apart
  value_of-behind (first ∷ items) item key none apart = by (same first.0 key) none (λ none. value_of-behind items item key none apart)
    where
      by : (b : Bool) → cond b (Some first.1) (value_of key items) ≡ None → (value_of key items ≡ None → value_of key (items ++ item ∷ []) ≡ None)
          → cond b (Some first.1) (value_of key (items ++ item ∷ [])) ≡ None
      by true none later = absurd (cc)
      by false none later = later none

  AreNew-behind : (items : List (List ℕ × V)) (item : List ℕ × V) (others : List (List ℕ × V)) → AreNew items others → AllByRecursion (λ other. same item.0 other.0 ≡ false) others → AreNew (items ++ item ∷ []) others
  AreNew-behind items item [] new apart = tt
  AreNew-behind items item (other ∷ others) new apart = (value_of-behind items item other.0 new.0 apart.0, AreNew-behind items item others new.1 apart.1)

  -- the map that takes in sorted items has theirs behind its own
  map_value-map_with : (items others : List (List ℕ × V)) (n : ℕ) → length others ≤ n → AreNew items others → IsStrictlySortedBy (slice_cmp nat_cmp) (keys_of others) → (key : List ℕ)
      → map_value same (map_with (map_of items n) others) key ≡ value_of key (items ++ others)
  unfolding IsStrictlySortedBy
  map_value-map_with items [] n fits new sorted key = map_value-map_of items n key ∙ ap (value_of key) (sym (append-nil items))
  map_value-map_with items (other ∷ others) zero fits new sorted key = absurd (omega (arith, fits))
  map_value-map_with items (other ∷ others) (suc n) fits new sorted key =
      ap (λ (t : TextMap V). map_value same (map_with t others) key) (map_insert-map_of items n other new.0)
      ∙ map_value-map_with (items ++ other ∷ []) others n (omega (arith, fits)) (AreNew-behind items other others new.1 (apart_from_sorted other.0 others sorted.0)) sorted.1 key
      ∙ ap (value_of key) (append_assoc items (other ∷ []) others)

  -- ---- the items in the order of their keys have the values of the map

  module _ (key : List ℕ) where
    cond_none : (b : Bool) (value : V) (other : Option V) → cond b (Some value) other ≡ None → (b ≡ false) × (other ≡ None)
    cond_none true value other none = absurd (cc)
    cond_none false value other none = (refl, none)

    -- a key that has no value after an item was put has none before, and is not the item's
    value_of-put : (k : List ℕ) (v : V) (items : List (List ℕ × V)) → value_of key (insert_entry (slice_cmp nat_cmp) items k v) ≡ None → (same k key ≡ false) × (value_of key items ≡ None)
    value_of-put k v [] none = let first = cond_none (same k key) v None none in (first.0, refl)
    value_of-put k v (item ∷ items) none = by (slice_cmp nat_cmp k item.0) refl (value_of-put k v items) none
      where
        by : (r : Ordering) → slice_cmp nat_cmp k item.0 ≡ r → (value_of key (insert_entry (slice_cmp nat_cmp) items k v) ≡ None → (same k key ≡ false) × (value_of key items ≡ None))
            → value_of key (match_ordering r ((k, v) ∷ item ∷ items) ((item.0, v) ∷ items) (item ∷ insert_entry (slice_cmp nat_cmp) items k v)) ≡ None
            → (same k key ≡ false) × (value_of key (item ∷ items) ≡ None)
        by Less is later none = cond_none (same k key) v (value_of key (item ∷ items)) none
        by Equal is later none =
            let first = cond_none (same item.0 key) v (value_of key items) none in
            (ap (λ l. same l key) (tied_is k item.0 is) ∙ first.0, ap (λ b. cond b (Some item.1) (value_of key items)) first.0 ∙ first.1)
        by Greater is later none =
            let first = cond_none (same item.0 key) item.1 (value_of key (insert_entry (slice_cmp nat_cmp) items k v)) none in
            let rest = later first.1 in
            (rest.0, ap (λ b. cond b (Some item.1) (value_of key items)) first.0 ∙ rest.1)

    value_of-sorted_with : (sorted items : List (List ℕ × V)) → value_of key (sorted_with sorted items) ≡ None → (value_of key sorted ≡ None) × (value_of key items ≡ None)
    value_of-sorted_with sorted [] none = (none, refl)
    value_of-sorted_with sorted (item ∷ items) none =
        let rest = value_of-sorted_with (insert_entry (slice_cmp nat_cmp) sorted item.0 item.1) items none in
        let first = value_of-put item.0 item.1 sorted rest.0 in
        (first.1, ap (λ b. cond b (Some item.1) (value_of key items)) first.0 ∙ rest.1)

    module _ (s : TextMap V) where
      map_value-found : (items : List (List ℕ × V)) → AllByRecursion (λ item. map_value same s item.0 ≡ Some item.1) items → (value : V) → value_of key items ≡ Some value → map_value same s key ≡ Some value
      map_value-found [] have value found = absurd (cc)
      map_value-found (item ∷ items) have value found = by (same item.0 key) refl (map_value-found items have.1 value) found
        where
          by : (b : Bool) → same item.0 key ≡ b → (value_of key items ≡ Some value → map_value same s key ≡ Some value) → cond b (Some item.1) (value_of key items) ≡ Some value → map_value same s key ≡ Some value
          by true is later found = ap (map_value same s) (sym ((bytes_eq-Decides item.0 key).0 is)) ∙ have.0 ∙ found
          by false is later found = later found

      value_of-by_key : HasDistinctKeys same s → value_of key (by_key (map_items s)) ≡ map_value same s key
      value_of-by_key distinct = go (value_of key (by_key (map_items s))) refl
        where
          go : (found : Option V) → value_of key (by_key (map_items s)) ≡ found → value_of key (by_key (map_items s)) ≡ map_value same s key
          go None none = none ∙ sym (sym (lookup-map_items same s key) ∙ (value_of-sorted_with [] (map_items s) none).1)
          go (Some value) some =
              let have = All-by_key (λ item. map_value same s item.0 ≡ Some item.1) (map_items s) (values-map_items s distinct) in
              some ∙ sym (map_value-found (by_key (map_items s)) have value some)

  -- a new map that takes in the items has the same entries
  pub HasSameEntries-map_with : (s : TextMap V) → HasDistinctKeys same s → (capacity : ℕ) → length (map_items s) ≤ capacity → HasSameEntries s (map_with (slot_table_new capacity) (by_key (map_items s)))
  HasSameEntries-map_with s distinct capacity fits key =
      let fewer = length-by_key (map_items s) in
      map_value-map_with [] (by_key (map_items s)) capacity (omega arith) (AreNew-none (by_key (map_items s))) (sorted-by_key (map_items s)) key
      ∙ value_of-by_key key s distinct
