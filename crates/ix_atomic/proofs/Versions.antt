-- Versions count the begins and ends of writes.
use Rattle.std.proofs.Common.{◌≡◌, ℕ, ◌+◌, List, [], ◌∷◌, ◌++◌, Bool, true, false, cond, refl, sym, ap, ◌∙◌, arith, ne_eqb, eq-eqb, eqb-true}
use Rattle.std.specs.List.{filter}
use Rattle.std.proofs.lemmas.List.Sums.{sum_by-cons, sum_by-append}
use Rattle.std.proofs.lemmas.Bool.{eqb-false, not-true, not_from_false}
use Rattle.ix_atomic.specs.declared.byte_atomic.steps.versioned.VersionedStep.{VersionedStep}
use Rattle.ix_atomic.specs.declared.byte_atomic.steps.versioned.VersionedStep.TheVariants.{Begin, Store, End, LoadVersion, LoadByte}
use Rattle.ix_atomic.specs.EachStep.{EachAfter}
use Rattle.ix_atomic.specs.VersionedSteps.{is_of_writer, is_begin_or_end, version_after, HasVersion}
use Rattle.ix_atomic.specs.inner.StepTests.{version_agrees, next_version, versions_agree}
use Rattle.ix_atomic.proofs.EachStep.{EachAfter-steps_pass, steps_pass-EachAfter}

-- by how much a step raises the version
abbrev pub raise : VersionedStep → ℕ
raise step = cond (is_begin_or_end step) 1 0

pub version_after-cons : (step : VersionedStep) (steps : List VersionedStep) → version_after (step ∷ steps) ≡ raise step + version_after steps
version_after-cons step steps = sum_by-cons raise step steps

pub version_after-append : (xs ys : List VersionedStep) → version_after (xs ++ ys) ≡ version_after xs + version_after ys
version_after-append xs ys = sum_by-append raise xs ys

-- only the writer's steps raise it
pub version_after-filter : (steps : List VersionedStep) → version_after (filter is_of_writer steps) ≡ version_after steps
version_after-filter [] = refl
version_after-filter (Begin ∷ steps) = let a = version_after-cons Begin steps in let b = version_after-cons Begin (filter is_of_writer steps) in let r = version_after-filter steps in omega arith
version_after-filter (Store place byte ∷ steps) = let a = version_after-cons (Store place byte) steps in let b = version_after-cons (Store place byte) (filter is_of_writer steps) in let r = version_after-filter steps in omega arith
version_after-filter (End ∷ steps) = let a = version_after-cons End steps in let b = version_after-cons End (filter is_of_writer steps) in let r = version_after-filter steps in omega arith
version_after-filter (LoadVersion reader version ∷ steps) = let a = version_after-cons (LoadVersion reader version) steps in let r = version_after-filter steps in omega arith
version_after-filter (LoadByte reader place byte ∷ steps) = let a = version_after-cons (LoadByte reader place byte) steps in let r = version_after-filter steps in omega arith

raised : (b : Bool) (version : ℕ) → version + (cond {A = ℕ} b 1 0 + 0) ≡ cond b (version + 1) version
raised true version = omega arith
raised false version = omega arith

version_after-push : (before : List VersionedStep) (version : ℕ) (step : VersionedStep) → version_after before ≡ version → version_after (before ++ step ∷ []) ≡ next_version version step
version_after-push before version step is =
    version_after-append before (step ∷ [])
    ∙ ap (λ n. version_after before + n) (version_after-cons step [])
    ∙ ap (λ n. n + (raise step + 0)) is
    ∙ raised (is_begin_or_end step) version

version_agrees-tells : (before : List VersionedStep) (version : ℕ) (step : VersionedStep) → version_after before ≡ version → version_agrees version step ≡ true → HasVersion before step
version_agrees-tells before version Begin is passes = λ last. eqb-false _ _ (not-true _ passes) (sym is ∙ last)
version_agrees-tells before version (Store place byte) is passes = tt
version_agrees-tells before version End is passes = tt
version_agrees-tells before version (LoadVersion reader loaded) is passes = eqb-true _ _ passes ∙ sym is
version_agrees-tells before version (LoadByte reader place byte) is passes = tt

version_agrees-from : (before : List VersionedStep) (version : ℕ) (step : VersionedStep) → version_after before ≡ version → HasVersion before step → version_agrees version step ≡ true
version_agrees-from before version Begin is has = not_from_false _ (ne_eqb _ _ (λ last. has (is ∙ last)))
version_agrees-from before version (Store place byte) is has = refl
version_agrees-from before version End is has = refl
version_agrees-from before version (LoadVersion reader loaded) is has = eq-eqb _ _ (has ∙ is)
version_agrees-from before version (LoadByte reader place byte) is has = refl

pub HasVersion-steps_pass : (steps : List VersionedStep) → versions_agree 0 steps ≡ true → EachAfter HasVersion steps
HasVersion-steps_pass steps passes = EachAfter-steps_pass version_agrees next_version (λ before version. version_after before ≡ version) HasVersion version_after-push version_agrees-tells 0 steps refl passes

pub versions_agree-each : (steps : List VersionedStep) → EachAfter HasVersion steps → versions_agree 0 steps ≡ true
versions_agree-each steps each = steps_pass-EachAfter version_agrees next_version (λ before version. version_after before ≡ version) HasVersion version_after-push version_agrees-from 0 steps refl each
