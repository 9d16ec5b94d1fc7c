-- A test that keeps a state tells what holds of each step.
use Rattle.std.proofs.Common.{◌≡◌, List, [], ◌∷◌, ◌++◌, Bool, true, refl, sym, ap, subst, append_assoc}
use Rattle.std.proofs.lemmas.List.{append-nil}
use Rattle.std.proofs.lemmas.Bool.{and_parts, and_from}
use Rattle.ix_atomic.specs.EachStep.{EachAfter}
use Rattle.ix_atomic.specs.inner.StepTests.{steps_pass}

module _ {A S : Type 0} where
  -- the state is this one after these steps, and after one more
  abbrev pub Tracks : (A → S → A) → (List S → A → Type 0) → Type 0
  Tracks next IsAfter = (before : List S) (state : A) (step : S) → IsAfter before state → IsAfter (before ++ step ∷ []) (next state step)

  holds_at : (test : A → S → Bool) (next : A → S → A) (IsAfter : List S → A → Type 0) (holds : List S → S → Type 0)
      → Tracks next IsAfter
      → ((before : List S) (state : A) (step : S) → IsAfter before state → test state step ≡ true → holds before step)
      → (before : List S) (state : A) (steps : List S) → IsAfter before state → steps_pass test next state steps ≡ true
      → (front back : List S) (step : S) → steps ≡ front ++ step ∷ back → holds (before ++ front) step
  holds_at test next IsAfter holds tracks tells before state [] is passes [] back step e = absurd (cc)
  holds_at test next IsAfter holds tracks tells before state [] is passes (x ∷ front) back step e = absurd (cc)
  holds_at test next IsAfter holds tracks tells before state (y ∷ steps) is passes [] back step e =
      let same : y ≡ step = cc in
      let here = tells before state y is (and_parts _ _ passes).0 in
      subst (λ (b : List S). holds b step) (sym (append-nil before)) (subst (λ (s : S). holds before s) same here)
  holds_at test next IsAfter holds tracks tells before state (y ∷ steps) is passes (x ∷ front) back step e =
      let same : y ≡ x = cc in
      let rest : steps ≡ front ++ step ∷ back = cc in
      let later = holds_at test next IsAfter holds tracks tells (before ++ y ∷ []) (next state y) steps (tracks before state y is) (and_parts _ _ passes).1 front back step rest in
      subst (λ (z : S). holds (before ++ z ∷ front) step) same (subst (λ (l : List S). holds l step) (append_assoc before (y ∷ []) front) later)

  passes_on : (test : A → S → Bool) (next : A → S → A) (IsAfter : List S → A → Type 0) (holds : List S → S → Type 0)
      → Tracks next IsAfter
      → ((before : List S) (state : A) (step : S) → IsAfter before state → holds before step → test state step ≡ true)
      → (before : List S) (state : A) (steps : List S) → IsAfter before state
      → ((front back : List S) (step : S) → steps ≡ front ++ step ∷ back → holds (before ++ front) step)
      → steps_pass test next state steps ≡ true
  passes_on test next IsAfter holds tracks tells before state [] is each = refl
  passes_on test next IsAfter holds tracks tells before state (step ∷ steps) is each =
      and_from _ _ (tells before state step is (subst (λ (b : List S). holds b step) (append-nil before) (each [] steps step refl)))
      (passes_on test next IsAfter holds tracks tells (before ++ step ∷ []) (next state step) steps (tracks before state step is)
      (λ front back later e. subst (λ (l : List S). holds l later) (sym (append_assoc before (step ∷ []) front)) (each (step ∷ front) back later (ap (λ l. step ∷ l) e))))

  -- a test passes only where this holds of each step
  pub EachAfter-steps_pass : (test : A → S → Bool) (next : A → S → A) (IsAfter : List S → A → Type 0) (holds : List S → S → Type 0)
      → Tracks next IsAfter
      → ((before : List S) (state : A) (step : S) → IsAfter before state → test state step ≡ true → holds before step)
      → (state : A) (steps : List S) → IsAfter [] state → steps_pass test next state steps ≡ true → EachAfter holds steps
  EachAfter-steps_pass test next IsAfter holds tracks tells state steps is passes = holds_at test next IsAfter holds tracks tells [] state steps is passes

  -- and it passes wherever this holds
  pub steps_pass-EachAfter : (test : A → S → Bool) (next : A → S → A) (IsAfter : List S → A → Type 0) (holds : List S → S → Type 0)
      → Tracks next IsAfter
      → ((before : List S) (state : A) (step : S) → IsAfter before state → holds before step → test state step ≡ true)
      → (state : A) (steps : List S) → IsAfter [] state → EachAfter holds steps → steps_pass test next state steps ≡ true
  steps_pass-EachAfter test next IsAfter holds tracks tells state steps is each = passes_on test next IsAfter holds tracks tells [] state steps is each
