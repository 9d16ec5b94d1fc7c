-- Lemmas on tests, and on changes that a test decides.
use Rattle.std.proofs.Common.{◌≡◌, Bool, true, false, refl, sym, ap}
use Rattle.std.specs.Prelude.{◌↔◌, if◌then◌else◌}
use Rattle.std.specs.Bool.{OnTrue, OnFalse}

-- two tests of one thing
pub same_test : (a b : Bool) (P : Type 0) → a ≡ true ↔ P → b ≡ true ↔ P → a ≡ b
same_test true true P at bt = refl
same_test true false P at bt = sym (bt.1 (at.0 refl))
same_test false true P at bt = at.1 (bt.0 refl)
same_test false false P at bt = refl

-- what a change leaves, if it is made exactly if the test is true
pub new-if : {A B : Type 0} (model : A → B) (old new : A) (after : B) (result test : Bool) → result ≡ test → OnTrue result (model new ≡ after) → OnFalse result (new ≡ old)
    → model new ≡ (if test then after else model old)
new-if model old new after true test is made kept = rw (sym is) made
new-if model old new after false test is made kept = rw (sym is) (ap model kept)
