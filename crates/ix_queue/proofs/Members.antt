-- `contains` of a queue of numbers finds exactly those that the queue has.
use Rattle.std.specs.Prelude.{◌≡◌, ℕ, List, Bool, true, IsTrue, nat_eq}
use Rattle.std.specs.List.{Contains, list_any}
use Rattle.std.specs.Cmp.{IsEquivalence}
use Rattle.std.proofs.Common.{sym, ap, ◌∙◌}
use Rattle.std.proofs.lemmas.Bool.{eqb-true}
use Rattle.std.proofs.lemmas.Cmp.{nat_eq_equiv}
use Rattle.std.proofs.lemmas.Map.Views.{Contains-from_any, list_any-from_Contains}

same_number : (x y : ℕ) → nat_eq y x ≡ true → x ≡ y
same_number x y e = sym (eqb-true y x e)

-- the equality of numbers, the other way round
reversed : IsEquivalence (λ x y. nat_eq y x)
reversed = record {
  refl = nat_eq_equiv.refl;
  symm = λ x y. nat_eq_equiv.symm y x;
  congr = λ x y z e. ap (λ w. nat_eq z w) (same_number x y e);
}

module _ (items : List ℕ) (number : ℕ) (found : Bool) (says : found ≡ list_any (λ other. nat_eq other number) items) where
  -- a number that `contains` finds is an item
  pub number_is_item : IsTrue found → Contains items number
  number_is_item answer = Contains-from_any {eq = λ x y. nat_eq y x} same_number number items (sym says ∙ answer)

  -- a number that is an item is found
  pub item_is_found : Contains items number → IsTrue found
  item_is_found there = says ∙ list_any-from_Contains {eq = λ x y. nat_eq y x} reversed number items there
