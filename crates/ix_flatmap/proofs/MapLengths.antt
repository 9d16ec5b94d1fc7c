-- Two maps with as many keys are equal if one has each key of the other, with an equal value.
use Rattle.std.proofs.Common.{◌≡◌, ℕ, zero, suc, ◌+◌, ◌≤◌, ◌&&◌, List, [], ◌∷◌, length, map, Bool, true, false, Option, Some, None, inl, inr, refl, sym, ap, ◌∙◌, arith}
use Rattle.std.specs.Prelude.{◌||◌, option_map}
use Rattle.std.specs.Cmp.{IsEquivalence, IsPartialEquivalence}
use Rattle.std.specs.List.{list_any, list_all, IsDistinct, AllByRecursion}
use Rattle.std.specs.Option.{option_map_or}
use Rattle.std.proofs.lemmas.Bool.{cases_Bool}
use Rattle.std.proofs.lemmas.List.{length-map}
use Rattle.std.proofs.lemmas.Map.Keys.{IsDistinct-cons}
use Rattle.std.proofs.lemmas.Map.Made.{length-le_from_is_member}
use Rattle.ix_tables.specs.Places.{place_at}
use Rattle.ix_slottable.specs.SlotTableState.{SlotTableState, value_at, held_count, entries, entries_from}
use Rattle.ix_slottable.proofs.Entries.{count_by-is_some}
use Rattle.ix_flatmap.specs.MapState.{HasDistinctKeys, map_entry, map_keys, map_item, map_items}
use Rattle.ix_flatmap.specs.MapCompared.{is_same_item, has_each, has_same}
use Rattle.ix_flatmap.specs.declared.map.pair.Pair.{Pair}
use Rattle.ix_flatmap.proofs.MapEntries.{IsEntry-map_entry, map_entry_none, map_value-IsEntry}
use Rattle.ix_flatmap.proofs.MapEqual.{any_value}
use Rattle.ix_flatmap.specs.laws.MapCompared.{and_left, and_right, or_left, or_right}

module _ {K V : Type 0} (eq : K → K → Bool) (value_eq : V → V → Bool) (laws : IsEquivalence eq) (values : IsPartialEquivalence value_eq) where
  abbrev is_member : (K → K → Bool) → List K → K → Bool
  is_member same keys q = list_any (same q) keys

  abbrev keys_from : ℕ → List (Option (Pair K V)) → List K
  keys_from start places = map (λ (e : ℕ × Pair K V). e.1.key) (entries_from start places)

  flips : (a b : K) → eq a b ≡ false → eq b a ≡ false
  flips a b differs = laws.symm b a ∙ differs

  all_apart : (key : K) (start : ℕ) (places : List (Option (Pair K V))) → ((i : ℕ) (b : Pair K V) → place_at places i ≡ Some b → eq key b.key ≡ false) → AllByRecursion (λ y. eq key y ≡ false) (keys_from start places)
  all_apart key start [] apart = tt
  all_apart key start (None ∷ places) apart = all_apart key (start + 1) places (λ i. apart (suc i))
  all_apart key start (Some a ∷ places) apart = (apart 0 a refl, all_apart key (start + 1) places (λ i. apart (suc i)))

  keys_apart : (start : ℕ) (places : List (Option (Pair K V)))
      → ((i j : ℕ) (a b : Pair K V) → place_at places i ≡ Some a → place_at places j ≡ Some b → eq a.key b.key ≡ true → i ≡ j) → IsDistinct eq (keys_from start places)
  unfolding IsDistinct
  keys_apart start [] distinct = tt
  keys_apart start (None ∷ places) distinct = keys_apart (start + 1) places (λ i j a b at_i at_j equal. (let is = distinct (suc i) (suc j) a b at_i at_j equal in omega arith))
  keys_apart start (Some a ∷ places) distinct = (
    all_apart a.key (start + 1) places (λ i b at. elim (cases_Bool (eq a.key b.key)) [
      | inl equal ↦ absurd (let is = distinct 0 (suc i) a b refl at equal in omega arith)
      | inr not ↦ not
    ]),
    keys_apart (start + 1) places (λ i j a b at_i at_j equal. (let is = distinct (suc i) (suc j) a b at_i at_j equal in omega arith)),
  )

  -- a key that is at a place is a member
  member_at : (q : K) (start : ℕ) (places : List (Option (Pair K V))) (i : ℕ) (b : Pair K V) → place_at places i ≡ Some b → eq q b.key ≡ true → is_member eq (keys_from start places) q ≡ true
  member_at q start [] i b at equal = absurd (cc)
  member_at q start (None ∷ places) zero b at equal = absurd (cc)
  member_at q start (None ∷ places) (suc i) b at equal = member_at q (start + 1) places i b at equal
  member_at q start (Some a ∷ places) zero b at equal =
      let is : a ≡ b = cc in or_left (eq q a.key) _ (ap (λ (p : Pair K V). eq q p.key) is ∙ equal)
  member_at q start (Some a ∷ places) (suc i) b at equal = or_right (eq q a.key) _ (member_at q (start + 1) places i b at equal)

  -- what passes at each place passes for all items, and the other way round
  all_from : (test : K × V → Bool) (start : ℕ) (places : List (Option (Pair K V))) → ((i : ℕ) (b : Pair K V) → place_at places i ≡ Some b → test (b.key, b.value) ≡ true) → list_all test (map map_item (entries_from start places)) ≡ true
  all_from test start [] each = refl
  all_from test start (None ∷ places) each = all_from test (start + 1) places (λ i. each (suc i))
  all_from test start (Some a ∷ places) each =
      ap (λ b. b && list_all test (map map_item (entries_from (start + 1) places))) (each 0 a refl) ∙ all_from test (start + 1) places (λ i. each (suc i))

  each_from : (test : K × V → Bool) (start : ℕ) (places : List (Option (Pair K V))) → list_all test (map map_item (entries_from start places)) ≡ true → (i : ℕ) (b : Pair K V) → place_at places i ≡ Some b → test (b.key, b.value) ≡ true
  each_from test start [] all i b at = absurd (cc)
  each_from test start (None ∷ places) all zero b at = absurd (cc)
  each_from test start (None ∷ places) all (suc i) b at = each_from test (start + 1) places all i b at
  each_from test start (Some a ∷ places) all zero b at =
      let is : a ≡ b = cc in ap (λ (p : Pair K V). test (p.key, p.value)) (sym is) ∙ and_left (test (a.key, a.value)) _ all
  each_from test start (Some a ∷ places) all (suc i) b at = each_from test (start + 1) places (and_right (test (a.key, a.value)) _ all) i b at

  -- a key that is had is a member
  member_any : (items : List (ℕ × Pair K V)) (other : K × V) (q : K) → list_any (λ item. is_same_item eq value_eq item other) (map map_item items) ≡ true → eq q other.0 ≡ true → is_member eq (map (λ (e : ℕ × Pair K V). e.1.key) items) q ≡ true
  member_any [] other q some equal = absurd (cc)
  member_any (item ∷ items) other q some equal = elim (cases_Bool (is_same_item eq value_eq (map_item item) other)) [
    | inl same ↦ or_left (eq q item.1.key) _ (laws.congr q other.0 item.1.key equal ∙ (laws.symm other.0 item.1.key ∙ and_left (eq item.1.key other.0) _ same))
    | inr not ↦
        or_right (eq q item.1.key) _
        (member_any items other q (sym (ap (λ b. b || list_any (λ item. is_same_item eq value_eq item other) (map map_item items)) not) ∙ some) equal)
  ]

  members_had : (items others : List (ℕ × Pair K V)) → has_each (is_same_item eq value_eq) (map map_item items) (map map_item others) ≡ true → (q : K)
      → is_member eq (map (λ (e : ℕ × Pair K V). e.1.key) others) q ≡ true → is_member eq (map (λ (e : ℕ × Pair K V). e.1.key) items) q ≡ true
  members_had items [] each q is = absurd (cc)
  members_had items (other ∷ others) each q is = elim (cases_Bool (eq q other.1.key)) [
    | inl equal ↦ member_any items (map_item other) q (and_left (list_any (λ item. is_same_item eq value_eq item (map_item other)) (map map_item items)) _ each) equal
    | inr not ↦
        members_had items others (and_right (list_any (λ item. is_same_item eq value_eq item (map_item other)) (map map_item items)) _ each) q
        (sym (ap (λ b. b || is_member eq (map (λ (e : ℕ × Pair K V). e.1.key) others) q) not) ∙ is)
  ]

  module _ (s t : SlotTableState (Pair K V)) (distinct : HasDistinctKeys eq s) (distinct' : HasDistinctKeys eq t) where
    abbrev each : SlotTableState (Pair K V) → SlotTableState (Pair K V) → Bool
    each own other = has_each (is_same_item eq value_eq) (map_items own) (map_items other)

    key_count : (own : SlotTableState (Pair K V)) → length (map_keys own) ≡ held_count own
    key_count own = length-map (entries own) (λ (e : ℕ × Pair K V). e.1.key) ∙ sym (count_by-is_some 0 own.values)

    -- a map that has each key of another has as many, or more
    pub held_count-has_each : each s t ≡ true → held_count t ≤ held_count s
    held_count-has_each all =
        let fits = length-le_from_is_member laws (map_keys t) (map_keys s) (keys_apart 0 t.values distinct') (members_had (entries s) (entries t) all) in
        let mine = key_count s in let its = key_count t in omega (arith, fits, mine, its)

    -- a key of the one that the other does not have makes it the greater
    lacks : each s t ≡ true → (place : ℕ) (pair : Pair K V) → value_at s place ≡ Some pair → map_entry eq t pair.key ≡ None → held_count t + 1 ≤ held_count s
    lacks all place pair at none =
        let apart : AllByRecursion (λ y. eq pair.key y ≡ false) (map_keys t) = all_apart pair.key 0 t.values (λ i b here. flips b.key pair.key (map_entry_none eq t pair.key none i b here)) in
        let fits = length-le_from_is_member laws (pair.key ∷ map_keys t) (map_keys s) (IsDistinct-cons eq pair.key (map_keys t) apart (keys_apart 0 t.values distinct')) (λ q is. elim (cases_Bool (eq q pair.key)) [
          | inl equal ↦ member_at q 0 s.values place pair at equal
          | inr not ↦ members_had (entries s) (entries t) all q (sym (ap (λ b. b || is_member eq (map_keys t) q) not) ∙ is)
        ]) in
        let mine = key_count s in let its = key_count t in omega (arith, fits, mine, its)

    had_back : each s t ≡ true → (place : ℕ) (pair : Pair K V) → value_at s place ≡ Some pair → (found : Option (ℕ × Pair K V)) → map_entry eq t pair.key ≡ found → held_count s ≤ held_count t → option_map_or (λ own. value_eq own pair.value) (option_map (λ (e : ℕ × Pair K V). e.1.value) found) false ≡ true
    had_back all place pair at None none as_many = absurd (let more = lacks all place pair at none in omega (arith, more, as_many))
    had_back all place pair at (Some entry) some as_many =
        let is = IsEntry-map_entry eq t pair.key entry some in
        let had = each_from (λ other. list_any (λ item. is_same_item eq value_eq item other) (map_items s)) 0 t.values all entry.0 entry.1 is.at in
        let found = map_value-IsEntry eq laws s entry.1.key place pair distinct at (laws.symm pair.key entry.1.key ∙ is.equal) in
        let same : value_eq pair.value entry.1.value ≡ true =
        sym (ap (λ own. option_map_or (λ own. value_eq own entry.1.value) own false) found) ∙ (sym (any_value eq value_eq laws entry.1.key entry.1.value s distinct) ∙ had) in
        values.symm entry.1.value pair.value ∙ same

    -- a map that has each key of another, and no more, has its keys in the other
    pub has_each-back : each s t ≡ true → held_count s ≤ held_count t → each t s ≡ true
    has_each-back all as_many = all_from (λ other. list_any (λ item. is_same_item eq value_eq item other) (map_items t)) 0 s.values
        (λ place pair at. any_value eq value_eq laws pair.key pair.value t distinct' ∙ had_back all place pair at (map_entry eq t pair.key) refl as_many)

  -- maps are equal if they have as many keys, and one has each key of the other
  module _ (s t : SlotTableState (Pair K V)) (distinct : HasDistinctKeys eq s) (distinct' : HasDistinctKeys eq t) where
    abbrev both : Bool
    both = has_same (is_same_item eq value_eq) (map_items s) (map_items t)

    pub has_same-as_many : held_count s ≡ held_count t → has_each (is_same_item eq value_eq) (map_items s) (map_items t) ≡ both
    has_same-as_many as_many = elim (cases_Bool (has_each (is_same_item eq value_eq) (map_items s) (map_items t))) [
      | inl all ↦ all ∙ sym (ap (λ b. b && has_each (is_same_item eq value_eq) (map_items t) (map_items s)) all ∙ has_each-back s t distinct distinct' all (omega (arith, as_many)))
      | inr not ↦ not ∙ sym (ap (λ b. b && has_each (is_same_item eq value_eq) (map_items t) (map_items s)) not)
    ]

    pub has_same-differ : (held_count s ≡ held_count t → ⊥) → both ≡ false
    has_same-differ differ = elim (cases_Bool both) [
      | inl all ↦ absurd (
          let fewer = held_count-has_each s t distinct distinct' (and_left (has_each (is_same_item eq value_eq) (map_items s) (map_items t)) _ all) in
          let more = held_count-has_each t s distinct' distinct (and_right (has_each (is_same_item eq value_eq) (map_items s) (map_items t)) _ all) in
          differ (omega (arith, fewer, more))
          )
      | inr not ↦ not
    ]
