-- The laws of equality of flat maps.
use Rattle.std.proofs.Common.{◌≡◌, ◌&&◌, List, [], ◌∷◌, Bool, true, false, inl, inr, refl, sym, ap, ◌∙◌}
use Rattle.std.specs.Prelude.{◌||◌}
use Rattle.std.specs.Cmp.{IsPartialEquivalence, IsEquivalence, partial_equiv_from_equiv, equiv, and_per, on_per, on_equiv}
use Rattle.std.specs.List.{list_any}
use Rattle.std.proofs.Math.Bool.{and_comm}
use Rattle.std.proofs.lemmas.Bool.{cases_Bool}
use Rattle.std.proofs.lemmas.Cmp.{and_equiv}
use Rattle.ix_slottable.specs.SlotTableState.{SlotTableState}
use Rattle.ix_flatmap.specs.MapState.{map_items}
use Rattle.ix_flatmap.specs.declared.map.pair.Pair.{Pair}
use Rattle.ix_flatmap.specs.MapCompared.{is_same_item, has_each, has_same}

pub and_left : (a b : Bool) → (a && b) ≡ true → a ≡ true
and_left true b both = refl
and_left false b both = both

pub and_right : (a b : Bool) → (a && b) ≡ true → b ≡ true
and_right true b both = both
and_right false b both = absurd (cc)

and_both : (a b : Bool) → a ≡ true → b ≡ true → (a && b) ≡ true
and_both a b first second = ap (λ c. c && b) first ∙ second

pub or_left : (a b : Bool) → a ≡ true → (a || b) ≡ true
or_left a b first = ap (λ c. c || b) first

pub or_right : (a b : Bool) → b ≡ true → (a || b) ≡ true
or_right true b second = refl
or_right false b second = second

module _ {X : Type 0} (same : X → X → Bool) where
  module _ (trans : (x y z : X) → same x y ≡ true → same y z ≡ true → same x z ≡ true) where
    any_step : (xs : List X) (y z : X) → list_any (λ x. same x y) xs ≡ true → same y z ≡ true → list_any (λ x. same x z) xs ≡ true
    any_step [] y z found is = found
    any_step (x ∷ xs) y z found is = elim (cases_Bool (same x y)) [
      | inl here ↦ or_left (same x z) _ (trans x y z here is)
      | inr not ↦ or_right (same x z) _ (any_step xs y z (sym (ap (λ b. b || list_any (λ x. same x y) xs) not) ∙ found) is)
    ]

    any_trans : (xs ys : List X) (z : X) → has_each same xs ys ≡ true → list_any (λ y. same y z) ys ≡ true → list_any (λ x. same x z) xs ≡ true
    any_trans xs [] z each found = absurd (cc)
    any_trans xs (y ∷ ys) z each found = elim (cases_Bool (same y z)) [
      | inl here ↦ any_step xs y z (and_left _ _ each) here
      | inr not ↦ any_trans xs ys z (and_right (list_any (λ x. same x y) xs) _ each) (sym (ap (λ b. b || list_any (λ y. same y z) ys) not) ∙ found)
    ]

    each_trans : (xs ys zs : List X) → has_each same xs ys ≡ true → has_each same ys zs ≡ true → has_each same xs zs ≡ true
    each_trans xs ys [] first second = refl
    each_trans xs ys (z ∷ zs) first second =
        and_both _ _ (any_trans xs ys z first (and_left _ _ second)) (each_trans xs ys zs first (and_right (list_any (λ y. same y z) ys) _ second))

  pub has_same_per : IsPartialEquivalence same → IsPartialEquivalence (has_same same)
  has_same_per laws = record {
    symm = λ xs ys. and_comm (has_each same xs ys) (has_each same ys xs);
    trans = λ xs ys zs first second. and_both (has_each same xs zs) (has_each same zs xs)
        (each_trans laws.trans xs ys zs (and_left _ _ first) (and_left _ _ second))
        (each_trans laws.trans zs ys xs (and_right (has_each same ys zs) _ second) (and_right (has_each same xs ys) _ first));
  }

  each_more : (x : X) (xs ys : List X) → has_each same xs ys ≡ true → has_each same (x ∷ xs) ys ≡ true
  each_more x xs [] each = refl
  each_more x xs (y ∷ ys) each =
      and_both _ _ (or_right (same x y) _ (and_left _ _ each)) (each_more x xs ys (and_right (list_any (λ x. same x y) xs) _ each))

  each_refl : ((x : X) → same x x ≡ true) → (xs : List X) → has_each same xs xs ≡ true
  each_refl itself [] = refl
  each_refl itself (x ∷ xs) = and_both _ _ (or_left (same x x) _ (itself x)) (each_more x xs xs (each_refl itself xs))

  pub has_same_equiv : IsEquivalence same → IsEquivalence (has_same same)
  has_same_equiv laws =
      equiv (has_same_per (partial_equiv_from_equiv laws)) (λ xs. and_both _ _ (each_refl laws.refl xs) (each_refl laws.refl xs))

module _ {K V : Type 0} (key_eq : K → K → Bool) (value_eq : V → V → Bool) where
  -- two maps have the same keys, with equal values
  abbrev have_same_items : SlotTableState (Pair K V) → SlotTableState (Pair K V) → Bool
  have_same_items s t = has_same (is_same_item key_eq value_eq) (map_items s) (map_items t)

  pub same_items_per : IsEquivalence key_eq → IsPartialEquivalence value_eq → IsPartialEquivalence have_same_items
  same_items_per keys values =
      on_per map_items (has_same_per (is_same_item key_eq value_eq) (and_per (on_per (λ p. p.0) (partial_equiv_from_equiv keys)) (on_per (λ p. p.1) values)))

  pub same_items_equiv : IsEquivalence key_eq → IsEquivalence value_eq → IsEquivalence have_same_items
  same_items_equiv keys values =
      on_equiv map_items (has_same_equiv (is_same_item key_eq value_eq) (and_equiv (on_equiv (λ p. p.0) keys) (on_equiv (λ p. p.1) values)))
