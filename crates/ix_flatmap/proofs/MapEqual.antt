-- What a look-up in a flat map knows of equality.
use Rattle.std.proofs.Common.{◌≡◌, ℕ, suc, ◌+◌, ◌&&◌, List, [], ◌∷◌, map, Bool, true, false, Option, Some, None, inl, inr, refl, sym, ap, ap₂, ◌∙◌, arith}
use Rattle.std.specs.Prelude.{◌||◌, cond, option_map}
use Rattle.std.specs.Cmp.{IsEquivalence}
use Rattle.std.specs.List.{list_any, find}
use Rattle.std.specs.Option.{option_map_or}
use Rattle.std.proofs.lemmas.Bool.{cases_Bool}
use Rattle.ix_tables.specs.Places.{place_at}
use Rattle.ix_slottable.specs.SlotTableState.{SlotTableState, entries_from}
use Rattle.ix_flatmap.specs.MapState.{HasDistinctKeys, map_item, map_items, map_entry, map_value}
use Rattle.ix_flatmap.specs.MapCompared.{is_same_item}
use Rattle.ix_flatmap.specs.declared.map.pair.Pair.{Pair}

module _ {K V : Type 0} (eq : K → K → Bool) (value_eq : V → V → Bool) (laws : IsEquivalence eq) (key : K) (value : V) where
  -- the test of a pair, with the key and value given
  abbrev is_like : K × V → Bool
  is_like item = is_same_item eq value_eq item (key, value)

  any_none : (start : ℕ) (places : List (Option (Pair K V))) → ((i : ℕ) (b : Pair K V) → place_at places i ≡ Some b → eq b.key key ≡ false) → list_any is_like (map map_item (entries_from start places)) ≡ false
  any_none start [] none = refl
  any_none start (None ∷ places) none = any_none (start + 1) places (λ i. none (suc i))
  any_none start (Some a ∷ places) none =
      ap (λ b. (b && value_eq a.value value) || list_any is_like (map map_item (entries_from (start + 1) places))) (none 0 a refl)
      ∙ any_none (start + 1) places (λ i. none (suc i))

  any_from : (start : ℕ) (places : List (Option (Pair K V)))
      → ((i j : ℕ) (a b : Pair K V) → place_at places i ≡ Some a → place_at places j ≡ Some b → eq a.key b.key ≡ true → i ≡ j)
      → list_any is_like (map map_item (entries_from start places)) ≡ option_map_or (λ (e : ℕ × Pair K V). value_eq e.1.value value) (find (λ e. eq e.1.key key) (entries_from start places)) false
  any_from start [] distinct = refl
  any_from start (None ∷ places) distinct = any_from (start + 1) places (λ i j a b at_i at_j equal. (let is = distinct (suc i) (suc j) a b at_i at_j equal in omega arith))
  any_from start (Some a ∷ places) distinct = elim (cases_Bool (eq a.key key)) [
    | inl equal ↦
        let rest : list_any is_like (map map_item (entries_from (start + 1) places)) ≡ false = any_none (start + 1) places (λ i b at. elim (cases_Bool (eq b.key key)) [
          | inl other ↦ absurd (let is = distinct 0 (suc i) a b refl at (laws.congr a.key key b.key equal ∙ (laws.symm key b.key ∙ other)) in omega arith)
          | inr not ↦ not
        ]) in
        ap₂ (λ b c. (b && value_eq a.value value) || c) equal rest
        ∙ or_false (value_eq a.value value)
        ∙ sym (ap (λ b. option_map_or (λ (e : ℕ × Pair K V). value_eq e.1.value value) (cond b (Some (start, a)) (find (λ e. eq e.1.key key) (entries_from (start + 1) places))) false) equal)
    | inr not ↦
        ap (λ b. (b && value_eq a.value value) || list_any is_like (map map_item (entries_from (start + 1) places))) not
        ∙ any_from (start + 1) places (λ i j a b at_i at_j equal. (let is = distinct (suc i) (suc j) a b at_i at_j equal in omega arith))
        ∙ sym (ap (λ b. option_map_or (λ (e : ℕ × Pair K V). value_eq e.1.value value) (cond b (Some (start, a)) (find (λ e. eq e.1.key key) (entries_from (start + 1) places))) false) not)
  ]
    where
      or_false : (b : Bool) → (b || false) ≡ b
      or_false true = refl
      or_false false = refl

  -- whether a map has an equal key with an equal value, by the value of the key
  pub any_value : (s : SlotTableState (Pair K V)) → HasDistinctKeys eq s → list_any is_like (map_items s) ≡ option_map_or (λ own. value_eq own value) (map_value eq s key) false
  any_value s distinct = any_from 0 s.values distinct ∙ same_option (map_entry eq s key)
    where
      same_option : (found : Option (ℕ × Pair K V)) → option_map_or (λ (e : ℕ × Pair K V). value_eq e.1.value value) found false ≡ option_map_or (λ own. value_eq own value) (option_map (λ (e : ℕ × Pair K V). e.1.value) found) false
      same_option None = refl
      same_option (Some entry) = refl
