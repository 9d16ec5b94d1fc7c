-- The calls that a queue makes of a closure: one with each item in turn, the front item first.
use Rattle.std.specs.Prelude.{◌≡◌, List, [], ◌∷◌}
use Rattle.std.specs.Borrow.{MutBor}
use Rattle.std.specs.Fn.{Mut, Takes, CalledAtMut}
use Rattle.std.specs.Iterator.{CallableAtEachTurn, YieldsFirst}

module _ {F T : Type 0} (calls : Mut F (MutBor T × Unit {0}) ((Unit {0}) × (MutBor T × Unit {0}))) where
  -- f may be called with a `&mut` to each of these items in turn, whatever the calls leave there
  abbrev pub IsCallableOnEachMut : List T → F → Type 0
  IsCallableOnEachMut =
      CallableAtEachTurn (YieldsFirst (λ rest. rest)) (λ p x q. (y : T) × CalledAtMut calls p x tt q y) (λ p x. (shown : MutBor T) → shown.now ≡ x → Takes calls p (shown, tt))

  -- f was called with the items xs, one after the other, left ys in their places, and was left as `last`
  abbrev pub ChangesInTurn : F → List T → List T → F → Type 0
  ChangesInTurn f [] [] last = f ≡ last
  ChangesInTurn f [] (y ∷ ys) last = ⊥
  ChangesInTurn f (x ∷ xs) [] last = ⊥
  ChangesInTurn f (x ∷ xs) (y ∷ ys) last = (next : F) × CalledAtMut calls f x tt next y × ChangesInTurn next xs ys last
