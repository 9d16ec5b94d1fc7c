-- Lemmas on closures that are called at rising numbers.
use Rattle.std.proofs.Common.{ℕ, ◌≡◌, ◌+◌, List, [], ◌∷◌, ◌++◌, length, refl, subst, sym, arith}
use Rattle.std.specs.Prelude.{Option, Some}
use Rattle.std.specs.Iterator.{CallableAtEachTurn}
use Rattle.ix_tables.specs.Calls.{ResultsFrom}

pub ResultsFrom-push : {F X : Type 0} (step : F → ℕ → X → F → Type 0) (i n : ℕ) (f : F) (xs : List X) (g : F) (x : X) (h : F)
    → n ≡ i + length xs → ResultsFrom step i f xs g → step g n x h → ResultsFrom step i f (xs ++ x ∷ []) h
ResultsFrom-push {F} step i n f [] g x h at is called =
    let at_n : F → Type 0 = λ p. step p n x h in
    let from_f : ℕ → Type 0 = λ k. step f k x h in
    let here : n ≡ i = omega arith in
    (h, subst from_f here (subst at_n (sym is) called), refl)
ResultsFrom-push step i n f (y ∷ ys) g x h at (next, answered, rest) called =
    (next, answered, ResultsFrom-push step (i + 1) n next ys g x h (omega arith) rest called)

module _ {S A P : Type 0} {steps : S → Option A → S → Type 0} {R : P → A → P → Type 0} {Q : P → A → Type 0} {s : S} {p : P}
    (callable : CallableAtEachTurn steps R Q s p) (x : A) (next : S) (comes : steps s (Some x) next) where
  -- the closure may be called at the item that comes
  pub Callable-now : Q p x
  Callable-now = callable.at [] s p x next refl refl comes

  -- and then at those after it
  pub Callable-on : (q : P) → R p x q → CallableAtEachTurn steps R Q next q
  Callable-on q called = record { at = λ xs t v y u yields folds last. callable.at (x ∷ xs) t v y u (next, comes, yields) (q, called, folds) last }
