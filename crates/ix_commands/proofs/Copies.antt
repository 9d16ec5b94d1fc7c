-- Lemmas on results of a closure that returns the same item at each call.
use Rattle.std.proofs.Common.{ℕ, ◌≡◌, ◌+◌, ◌-◌, ◌∙◌, List, [], ◌∷◌, ◌++◌, length, take, length-append, replicate, refl, Ok, Err, ap, arith}
use Rattle.std.specs.List.{AppendsResults, FoldsTo}
use Rattle.std.specs.Prelude.{OnOk}
use Rattle.std.proofs.lemmas.Grind.{common_steps}
use Rattle.ix_tables.specs.Bounded.{Bounded}
use Rattle.ix_vector.specs.VectorSteps.{VecResult, vec_resize}

-- calls that each returned x, and left the closure as it was
copies : {F X : Type 0} (step : F → X → F → Type 0) (x : X) (f : F) → ((p : F) (r : X) (q : F) → p ≡ f → step p r q → (r ≡ x) × (q ≡ f))
    → (p : F) (ys : List X) (last : F) → p ≡ f → FoldsTo step p ys last → ys ≡ replicate (length ys) x
copies {F} {X} step x f same p [] last is calls = refl
copies {F} {X} step x f same p (y ∷ ys) last is (q, call, calls) =
    let here = same p y q is call in
    rw here.0 (ap (λ (r : List X). x ∷ r) (copies step x f same q ys last here.1 calls))

-- a vector that was resized by such calls
pub vec_resize-copies : {F X : Type 0} {step : F → X → F → Type 0} {f : F} (old new : Bounded X) (n : ℕ) (x : X) (result : VecResult)
    → OnOk result (AppendsResults step (take n old.items) new.items f) → OnOk result (length new.items ≡ n) → new.capacity ≡ old.capacity
    → ((p : F) (r : X) (q : F) → p ≡ f → step p r q → (r ≡ x) × (q ≡ f)) → OnOk result (new ≡ vec_resize old n x)
vec_resize-copies {F} {X} {step} {f} old new n x (Err e) appended counted room same = tt
vec_resize-copies {F} {X} {step} {f} old new n x (Ok u) (ys, last, whole, calls) counted room same =
    let length_of = ap length whole ∙ length-append (take n old.items) ys in
    let kept : length (take n old.items) + (n - length old.items) ≡ n = grind (arith, common_steps) in
    let some : length ys ≡ n - length old.items = omega arith in
    let is : new.items ≡ take n old.items ++ replicate (n - length old.items) x =
    whole ∙ ap (λ (r : List X). take n old.items ++ r) (copies step x f same f ys last refl calls ∙ ap (λ (k : ℕ). replicate k x) some) in
    λ i. record { items = is i; capacity = room i }
