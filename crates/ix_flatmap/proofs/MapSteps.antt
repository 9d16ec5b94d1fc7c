-- What each step of a flat map leaves: distinct keys, and the value of each key.
use Rattle.std.proofs.Common.{◌≡◌, ◌≢◌, ℕ, ◌⊎◌, List, [], ◌∷◌, Option, Some, None, IsSome, Bool, true, false, get_or-set_same, get_or-set_other, refl, sym, ap, ◌∙◌, subst, inl, inr}
use Rattle.std.proofs.lemmas.Bool.{cases_eq, both_ways}
use Rattle.std.specs.Cmp.{IsEquivalence}
use Rattle.std.specs.Prelude.{if◌then◌else◌, is_some, option_map, slice_get, IfSome}
use Rattle.std.specs.Option.{option_map_or}
use Rattle.std.proofs.lemmas.List.{set-set}
use Rattle.ix_slottable.specs.SlotTableState.{SlotTableState, value_at, IsFree}
use Rattle.ix_slottable.specs.SlotTableSteps.{slot_table_set, slot_table_fill, slot_table_insert, keys_without, SlotTableInsert, SlotTableRemove}
use Rattle.ix_slottable.proofs.SlotTableSteps.{SlotTableInsert-held}
use Rattle.ix_flatmap.specs.MapState.{HasDistinctKeys, map_entry, map_value}
use Rattle.ix_flatmap.specs.MapSteps.{map_insert, pair_set, map_set, map_replace}
use Rattle.ix_flatmap.specs.declared.map.pair.Pair.{Pair}
use Rattle.ix_tables.proofs.Places.{place_at_within}
use Rattle.ix_flatmap.proofs.MapEntries.{IsEntry, IsEntry-map_entry, map_entry_none, map_entry-place, map_entry-IsEntry, map_value-IsEntry, map_entry_same, equal_keys}

pub first_free : (free : List ℕ) → (free ≡ [] → ⊥) → IsSome (slice_get free 0)
first_free [] some = absurd (some refl)
first_free (place ∷ free) some = refl

-- a new key is inserted whatever the others are
pub map_insert-fresh : {K V : Type 0} (eq : K → K → Bool) (s : SlotTableState (Pair K V)) (key : K) (value : V) → map_entry eq s key ≡ None → map_insert eq s key value ≡ slot_table_insert s (record { key = key; value = value })
map_insert-fresh eq s key value fresh = ap (λ found. if is_some found then s else slot_table_insert s (record { key = key; value = value })) fresh

module _ {K V : Type 0} (eq : K → K → Bool) (laws : IsEquivalence eq) where
  -- a pair with a new key is inserted
  module _ (old new : SlotTableState (Pair K V)) (x : Pair K V) (result : Option ℕ) (step : SlotTableInsert old x new result) (distinct : HasDistinctKeys eq old) (fresh : map_entry eq old x.key ≡ None) where
    -- a pair that is there now was there, or is the new one
    value_at-inserted : (i : ℕ) (a : Pair K V) → value_at new i ≡ Some a → ((a ≡ x) × (result ≡ Some i)) ⊎ (value_at old i ≡ Some a)
    value_at-inserted i a at = go (slice_get old.free 0) refl
      where
        go : (first : Option ℕ) → slice_get old.free 0 ≡ first → ((a ≡ x) × (result ≡ Some i)) ⊎ (value_at old i ≡ Some a)
        go None full =
            let is : new ≡ old = step.map ∙ ap (λ first. option_map_or (λ key. slot_table_fill old key x) first old) full in
            inr (sym (ap (λ s. value_at s i) is) ∙ at)
        go (Some key) free = elim (cases_eq i key) [
          | inl same ↦ let holds = subst (λ r. IfSome r (λ key. value_at new key ≡ Some x)) (step.key ∙ free) step.holds in
              let both : Some a ≡ Some x = sym at ∙ (ap (value_at new) same ∙ holds) in
              inl (cc, step.key ∙ (free ∙ ap Some (sym same)))
          | inr other ↦
              let is : new ≡ slot_table_fill old key x = step.map ∙ ap (λ first. option_map_or (λ key. slot_table_fill old key x) first old) free in
              inr (sym (get_or-set_other old.values key i (Some x) None other) ∙ (sym (ap (λ s. value_at s i) is) ∙ at))
        ]

    -- the new key is not equal to one that was there
    not_fresh : (i : ℕ) (a : Pair K V) → value_at old i ≡ Some a → eq a.key x.key ≡ true → ⊥
    not_fresh i a at equal = both_ways _ (map_entry_none eq old x.key fresh i a at) equal

    pub HasDistinctKeys-inserted : HasDistinctKeys eq new
    HasDistinctKeys-inserted i j a b at_i at_j equal = elim (value_at-inserted i a at_i) [
      | inl new_i ↦ elim (value_at-inserted j b at_j) [
        | inl new_j ↦ let both : Some i ≡ Some j = sym new_i.1 ∙ new_j.1 in cc
        | inr old_j ↦ absurd (not_fresh j b old_j (laws.symm b.key x.key ∙ (ap (λ (p : Pair K V). eq p.key b.key) (sym new_i.0) ∙ equal)))
      ]
      | inr old_i ↦ elim (value_at-inserted j b at_j) [
        | inl new_j ↦ absurd (not_fresh i a old_i (ap (λ (p : Pair K V). eq a.key p.key) (sym new_j.0) ∙ equal))
        | inr old_j ↦ distinct i j a b old_i old_j equal
      ]
    ]

    -- the new key has its value
    pub map_value-inserted : IsSome result → map_value eq new x.key ≡ Some x.value
    map_value-inserted some = go result some step.holds
      where
        go : (key : Option ℕ) → IsSome key → IfSome key (λ key. value_at new key ≡ Some x) → map_value eq new x.key ≡ Some x.value
        go None some holds = absurd (cc)
        go (Some key) some holds =
            ap (option_map (λ (e : ℕ × Pair K V). e.1.value)) (map_entry-IsEntry eq laws new x.key key x HasDistinctKeys-inserted (record { at = holds; equal = laws.refl x.key }))

    -- any other key has the value that it had
    pub map_value-inserted_other : (other : K) → eq other x.key ≡ false → map_value eq new other ≡ map_value eq old other
    map_value-inserted_other other differs =
        ap (option_map (λ (e : ℕ × Pair K V). e.1.value))
        (map_entry_same eq laws old new other HasDistinctKeys-inserted
        (λ place pair is. record { at = SlotTableInsert-held old x new result step place (subst IsSome (sym is.at) refl) ∙ is.at; equal = is.equal })
        (λ place pair is. elim (value_at-inserted place pair is.at) [
          | inl here ↦ absurd (both_ways _ differs (laws.symm other x.key ∙ (ap (λ (p : Pair K V). eq p.key other) (sym here.0) ∙ is.equal)))
          | inr there ↦ record { at = there; equal = is.equal }
        ]))

  -- the pair at a place is removed
  module _ (old new : SlotTableState (Pair K V)) (place : ℕ) (pair : Pair K V) (step : SlotTableRemove old place new (Some pair)) where
    value_at-removed : (i : ℕ) (a : Pair K V) → value_at new i ≡ Some a → (i ≢ place) × (value_at old i ≡ Some a)
    value_at-removed i a at =
        let other : i ≢ place = λ same. let none : Some a ≡ None = sym at ∙ (ap (value_at new) same ∙ step.gone) in absurd (cc) in
        (other, sym (step.kept i other) ∙ at)

    pub HasDistinctKeys-vacated : HasDistinctKeys eq old → HasDistinctKeys eq new
    HasDistinctKeys-vacated distinct i j a b at_i at_j equal = distinct i j a b (value_at-removed i a at_i).1 (value_at-removed j b at_j).1 equal

  -- the pair of a key is removed
  module _ (old new : SlotTableState (Pair K V)) (key : K) (place : ℕ) (pair : Pair K V) (has : Some place ≡ option_map (λ e. e.0) (map_entry eq old key)) (step : SlotTableRemove old place new (Some pair)) (distinct : HasDistinctKeys eq old) where
    pub removed_entry : IsEntry eq old key place pair
    removed_entry =
        let found = map_entry-place eq old key place has in
        let both : Some found.0 ≡ Some pair = sym found.2.at ∙ sym step.value in
        let is : found.0 ≡ pair = cc in
        record { at = sym step.value; equal = ap (λ (p : Pair K V). eq p.key key) (sym is) ∙ found.2.equal }

    pub HasDistinctKeys-removed : HasDistinctKeys eq new
    HasDistinctKeys-removed = HasDistinctKeys-vacated old new place pair step distinct

    pub map_value-removed : map_value eq new key ≡ None
    map_value-removed = go (map_entry eq new key) refl
      where
        go : (found : Option (ℕ × Pair K V)) → map_entry eq new key ≡ found → map_value eq new key ≡ None
        go None none = ap (option_map (λ (e : ℕ × Pair K V). e.1.value)) none
        go (Some entry) some =
            let left = IsEntry-map_entry eq new key entry some in
            let was = value_at-removed old new place pair step entry.0 entry.1 left.at in
            absurd (was.0 (distinct entry.0 place entry.1 pair was.1 removed_entry.at (equal_keys laws entry.1.key pair.key key left.equal removed_entry.equal)))

    pub map_value-removed_other : (other : K) → eq other key ≡ false → map_value eq new other ≡ map_value eq old other
    map_value-removed_other other differs =
        ap (option_map (λ (e : ℕ × Pair K V). e.1.value))
        (map_entry_same eq laws old new other HasDistinctKeys-removed
        (λ i a was. record { at = step.kept i (elsewhere i a was) ∙ was.at; equal = was.equal })
        (λ i a left. record { at = (value_at-removed old new place pair step i a left.at).1; equal = left.equal }))
      where
        elsewhere : (i : ℕ) (a : Pair K V) → IsEntry eq old other i a → i ≢ place
        elsewhere i a was same =
            let both : Some a ≡ Some pair = sym was.at ∙ (ap (value_at old) same ∙ removed_entry.at) in
            let is : a ≡ pair = cc in
            let equal : eq pair.key other ≡ true = ap (λ (p : Pair K V). eq p.key other) (sym is) ∙ was.equal in
            both_ways _ differs (laws.symm other key ∙ (sym (laws.congr pair.key key other removed_entry.equal) ∙ equal))

  -- the value of a key is written
  module _ (s : SlotTableState (Pair K V)) (key : K) (written : V) (distinct : HasDistinctKeys eq s) where
    module _ (place : ℕ) (pair : Pair K V) (is : IsEntry eq s key place pair) where
      at_place : value_at (slot_table_set s place (record pair { value = written })) place ≡ Some (record pair { value = written })
      at_place = get_or-set_same s.values place (Some (record pair { value = written })) None (place_at_within s.values place pair is.at)

      at_other : (i : ℕ) → i ≢ place → value_at (slot_table_set s place (record pair { value = written })) i ≡ value_at s i
      at_other i other = get_or-set_other s.values place i (Some (record pair { value = written })) None other

      -- each pair has the key that was there
      was_key : (i : ℕ) (a : Pair K V) → value_at (slot_table_set s place (record pair { value = written })) i ≡ Some a → (b : Pair K V) × (value_at s i ≡ Some b) × (b.key ≡ a.key)
      was_key i a at = elim (cases_eq i place) [
        | inl same ↦
            let both : Some a ≡ Some (record pair { value = written }) = sym at ∙ (ap (value_at (slot_table_set s place (record pair { value = written }))) same ∙ at_place) in
            let a_is : a ≡ record pair { value = written } = cc in
            (pair, ap (value_at s) same ∙ is.at, ap (λ (p : Pair K V). p.key) (sym a_is))
        | inr other ↦ (a, sym (at_other i other) ∙ at, refl)
      ]

      pub HasDistinctKeys-set : HasDistinctKeys eq (slot_table_set s place (record pair { value = written }))
      HasDistinctKeys-set i j a b at_i at_j equal =
          let was_i = was_key i a at_i in
          let was_j = was_key j b at_j in
          distinct i j was_i.0 was_j.0 was_i.1 was_j.1 (ap (λ k. eq k was_j.0.key) was_i.2 ∙ (ap (eq a.key) was_j.2 ∙ equal))

      set_same : map_value eq (slot_table_set s place (record pair { value = written })) key ≡ Some written
      set_same = map_value-IsEntry eq laws (slot_table_set s place (record pair { value = written })) key place (record pair { value = written }) HasDistinctKeys-set at_place is.equal

      set_other : (other : K) → eq other key ≡ false → map_value eq (slot_table_set s place (record pair { value = written })) other ≡ map_value eq s other
      set_other other differs =
          ap (option_map (λ (e : ℕ × Pair K V). e.1.value))
          (map_entry_same eq laws s (slot_table_set s place (record pair { value = written })) other HasDistinctKeys-set
          (λ i a was. record { at = at_other i (λ same. not_there a was.equal (let both : Some a ≡ Some pair = sym was.at ∙ (ap (value_at s) same ∙ is.at) in let a_is : a ≡ pair = cc in ap (λ (p : Pair K V). p.key) a_is)) ∙ was.at; equal = was.equal })
          (λ i a now. elim (cases_eq i place) [
            | inl same ↦
                let both : Some a ≡ Some (record pair { value = written }) = sym now.at ∙ (ap (value_at (slot_table_set s place (record pair { value = written }))) same ∙ at_place) in
                let a_is : a ≡ record pair { value = written } = cc in
                absurd (not_there a now.equal (ap (λ (p : Pair K V). p.key) a_is))
            | inr elsewhere ↦ record { at = sym (at_other i elsewhere) ∙ now.at; equal = now.equal }
          ]))
        where
          not_there : (a : Pair K V) → eq a.key other ≡ true → a.key ≡ pair.key → ⊥
          not_there a equal same =
              let equal_pair : eq pair.key other ≡ true = ap (λ k. eq k other) (sym same) ∙ equal in
              both_ways _ differs (laws.symm other key ∙ (sym (laws.congr pair.key key other is.equal) ∙ equal_pair))

    pub map_set-found : (entry : ℕ × Pair K V) → map_entry eq s key ≡ Some entry → map_set eq s key written ≡ slot_table_set s entry.0 (record entry.1 { value = written })
    map_set-found entry found =
        ap (λ e. option_map_or (λ e. pair_set s e.0 written) e s) found
        ∙ ap (λ p. option_map_or (λ pair. slot_table_set s entry.0 (record pair { value = written })) p s) (IsEntry-map_entry eq s key entry found).at

    -- to write a value at the place of a key is to write the key's value
    pub pair_set-place : (place : ℕ) → Some place ≡ option_map (λ e. e.0) (map_entry eq s key) → pair_set s place written ≡ map_set eq s key written
    pair_set-place place has = sym (ap (λ e. option_map_or (λ e. pair_set s e.0 written) e s) (map_entry-place eq s key place has).1)

    -- the key has what was written
    pub map_value-map_set : IsSome (map_value eq s key) → map_value eq (map_set eq s key written) key ≡ Some written
    map_value-map_set has = go (map_entry eq s key) refl
      where
        go : (found : Option (ℕ × Pair K V)) → map_entry eq s key ≡ found → map_value eq (map_set eq s key written) key ≡ Some written
        go None none = absurd (let no = subst IsSome (ap (option_map (λ (e : ℕ × Pair K V). e.1.value)) none) has in cc)
        go (Some entry) some = ap (λ t. map_value eq t key) (map_set-found entry some) ∙ set_same entry.0 entry.1 (IsEntry-map_entry eq s key entry some)

    -- any other key has the value that it had
    pub map_value-map_set_other : (other : K) → eq other key ≡ false → map_value eq (map_set eq s key written) other ≡ map_value eq s other
    map_value-map_set_other other differs = go (map_entry eq s key) refl
      where
        go : (found : Option (ℕ × Pair K V)) → map_entry eq s key ≡ found → map_value eq (map_set eq s key written) other ≡ map_value eq s other
        go None none = ap (λ e. map_value eq (option_map_or (λ e. pair_set s e.0 written) e s) other) none
        go (Some entry) some = ap (λ t. map_value eq t other) (map_set-found entry some) ∙ set_other entry.0 entry.1 (IsEntry-map_entry eq s key entry some) other differs

  -- the value of a key is exchanged, or the key is inserted with it
  module _ (s : SlotTableState (Pair K V)) (key : K) where
    pub map_replace-found : (entry : ℕ × Pair K V) → map_entry eq s key ≡ Some entry → (written : V) → map_replace eq s key written ≡ map_set eq s key written
    map_replace-found entry found written = ap (λ found. if is_some found then map_set eq s key written else map_insert eq s key written) found

    pub pair_set-found : (entry : ℕ × Pair K V) → map_entry eq s key ≡ Some entry → (written : V) → pair_set s entry.0 written ≡ map_set eq s key written
    pair_set-found entry found written = sym (ap (λ found. option_map_or (λ entry. pair_set s entry.0 written) found s) found)

    pub map_replace-found_set : (entry : ℕ × Pair K V) → map_entry eq s key ≡ Some entry → value_at s entry.0 ≡ Some entry.1 → (written : V) → map_replace eq s key written ≡ slot_table_set s entry.0 (record entry.1 { value = written })
    map_replace-found_set entry found at written =
        map_replace-found entry found written ∙ sym (pair_set-found entry found written)
        ∙ ap (λ pair. option_map_or (λ pair. slot_table_set s entry.0 (record pair { value = written })) pair s) at

    map_replace-absent : map_entry eq s key ≡ None → (written : V) → map_replace eq s key written ≡ slot_table_insert s (record { key = key; value = written })
    map_replace-absent none written =
        ap (λ found. if is_some found then map_set eq s key written else map_insert eq s key written) none
        ∙ ap (λ found. if is_some found then s else slot_table_insert s (record { key = key; value = written })) none

    pub map_replace-full : map_entry eq s key ≡ None → s.free ≡ [] → (written : V) → map_replace eq s key written ≡ s
    map_replace-full none full written =
        map_replace-absent none written
        ∙ ap (λ first. option_map_or (λ place. slot_table_fill s place (record { key = key; value = written })) first s) (ap (λ free. slice_get free 0) full)

    -- the key was inserted at the first free place, and its value is written
    module _ (new : SlotTableState (Pair K V)) (place : ℕ) (value : V) (none : map_entry eq s key ≡ None) (first : slice_get s.free 0 ≡ Some place) (free : IsFree s place) (is : new ≡ map_insert eq s key value) where
      filled : new ≡ slot_table_fill s place (record { key = key; value = value })
      filled =
          is
          ∙ map_insert-fresh eq s key value none
          ∙ ap (λ first. option_map_or (λ place. slot_table_fill s place (record { key = key; value = value })) first s) first

      pub value_at-new : value_at new place ≡ Some (record { key = key; value = value })
      value_at-new = ap (λ t. value_at t place) filled ∙ get_or-set_same s.values place (Some (record { key = key; value = value })) None free.0

      pair_set-new : (written : V) → pair_set new place written ≡ slot_table_set new place (record { key = key; value = written })
      pair_set-new written = ap (λ pair. option_map_or (λ (pair : Pair K V). slot_table_set new place (record pair { value = written })) pair new) value_at-new

      pub map_replace-new : (written : V) → pair_set new place written ≡ map_replace eq s key written
      map_replace-new written =
          pair_set-new written
          ∙ ap (λ t. slot_table_set t place (record { key = key; value = written })) filled
          ∙ ap (λ places. let t : SlotTableState (Pair K V) = record { values = places; free = keys_without place s.free } in t)
          (set-set s.values place (Some (record { key = key; value = value })) (Some (record { key = key; value = written })))
          ∙ sym (map_replace-absent none written ∙ ap (λ first. option_map_or (λ place. slot_table_fill s place (record { key = key; value = written })) first s) first)

      pub map_replace-new_set : (written : V) → map_replace eq s key written ≡ slot_table_set new place (record { key = key; value = written })
      map_replace-new_set written = sym (map_replace-new written) ∙ pair_set-new written

      module _ (distinct : HasDistinctKeys eq new) where
        map_set-new : (written : V) → map_set eq new key written ≡ map_replace eq s key written
        map_set-new written =
            sym (pair_set-found-at new (map_entry-IsEntry eq laws new key place (record { key = key; value = value }) distinct (record { at = value_at-new; equal = laws.refl key })) written)
            ∙ map_replace-new written
          where
            pair_set-found-at : (t : SlotTableState (Pair K V)) → map_entry eq t key ≡ Some (place, record { key = key; value = value }) → (written : V) → pair_set t place written ≡ map_set eq t key written
            pair_set-found-at t found written = sym (ap (λ found. option_map_or (λ entry. pair_set t entry.0 written) found t) found)

        pub map_value-replace_new : (written : V) → IsSome (map_value eq new key) → map_value eq (map_replace eq s key written) key ≡ Some written
        map_value-replace_new written has = ap (λ t. map_value eq t key) (sym (map_set-new written)) ∙ map_value-map_set new key written distinct has

        pub map_value-replace_new_other : (written : V) (other : K) → eq other key ≡ false → map_value eq (map_replace eq s key written) other ≡ map_value eq new other
        map_value-replace_new_other written other differs = ap (λ t. map_value eq t other) (sym (map_set-new written)) ∙ map_value-map_set_other new key written distinct other differs
