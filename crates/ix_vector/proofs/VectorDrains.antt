-- A vector that is drained.
use Rattle.std.proofs.Common.{◌≡◌, ◌-◌, List, [], ◌∷◌, length, take, reverse, slice_get, Option, Some, None, refl, sym, subst, ap, ◌∙◌}
use Rattle.std.specs.Iterator.{YieldsFirst}
use Rattle.std.proofs.lemmas.List.{reverse-append}
use Rattle.ix_tables.specs.Bounded.{Bounded}
use Rattle.ix_vector.specs.VectorDrain.{DrainKeeps, DrainKeepsAlong}
use Rattle.ix_vector.specs.declared.vector.drain.Drain.{Drain}
use Rattle.ix_vector.proofs.Tails.{without_last, no_last}

module _ {T V : Type 0} (bounded : V → Bounded T) where
  pub Drain-keeps_along : (drain : Drain T V) → DrainKeepsAlong bounded drain
  Drain-keeps_along drain [] later run = subst (DrainKeeps bounded drain) run (refl, refl)
  Drain-keeps_along drain (item ∷ items) later (next, step, run) =
      let rest = Drain-keeps_along next items later run in
      (rest.0 ∙ step.1.0, rest.1 ∙ step.1.1)

module _ {T : Type 0} where
  -- the last item is the first of the list the other way round
  pub YieldsFirst-last : (items rest : List T) (last : Option T) → last ≡ slice_get items (length items - 1) → rest ≡ take (length items - 1) items → YieldsFirst reverse items last rest
  YieldsFirst-last items rest None is left =
      let none = no_last items is in
      (ap reverse none, ap reverse (left ∙ ap (λ xs. take (length xs - 1) xs) none))
  YieldsFirst-last items rest (Some x) is left =
      ap reverse (without_last items x (sym is)) ∙ reverse-append (take (length items - 1) items) (x ∷ []) ∙ ap (λ xs. x ∷ reverse xs) (sym left)
