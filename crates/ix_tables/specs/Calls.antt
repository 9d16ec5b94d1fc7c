-- A closure that is called at rising numbers, or with each item of a list.
use Rattle.std.specs.Prelude.{ℕ, ◌≡◌, ◌+◌, List, [], ◌∷◌}
use Rattle.std.specs.Array.{index_steps}
use Rattle.std.specs.Borrow.{Bor}
use Rattle.std.specs.Fn.{Mut}
use Rattle.std.specs.Iterator.{CallableAtEachTurn, CallableOnAllAt, YieldsFirst}

-- calls at i, i + 1 and so on returned xs in turn, and left the closure as last
abbrev pub ResultsFrom : {F X : Type 0} → (F → ℕ → X → F → Type 0) → ℕ → F → List X → F → Type 0
ResultsFrom step i f [] last = f ≡ last
ResultsFrom {F} step i f (x ∷ xs) last = (next : F) × step f i x next × ResultsFrom step (i + 1) next xs last

-- calls at 0, 1 and so on below n may be made in turn, whatever they return
abbrev pub IsCallableBelow : {F X : Type 0} → (F → ℕ → X → F → Type 0) → (F → ℕ → Type 0) → ℕ → F → Type 0
IsCallableBelow {F} {X} step pre n f = CallableAtEachTurn (index_steps n) (λ g i next. (x : X) × step g i x next) pre 0 f

-- f may be called with a `&` to each of these items in turn, whatever the calls return
abbrev pub IsCallableOnEach : {F T R : Type 0} → Mut F (Bor T × Unit {0}) R → List T → F → Type 0
IsCallableOnEach calls = CallableOnAllAt (YieldsFirst (λ rest. rest)) calls

-- each call of f returns `value` of its argument, and leaves f as it was
abbrev pub Computes : {F X R : Type 0} → (F → X → R → F → Type 0) → F → (X → R) → Type 0
Computes {F} {X} {R} step f value = (x : X) (r : R) (next : F) → step f x r next → (r ≡ value x) × (next ≡ f)
