-- Lists of plain steps that are legal.
use Rattle.std.specs.Prelude.{ℕ, List, map}
use Rattle.ix_atomic.specs.declared.byte_atomic.steps.plain.Step.{Step}
use Rattle.ix_atomic.specs.ByteActs.{AreLegal}

-- what the steps do is legal, whichever operations they are of
abbrev pub IsLegal : List ℕ → List Step → Type 0
IsLegal first steps = AreLegal first (map (λ step. step.act) steps)
