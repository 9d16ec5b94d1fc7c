-- The containers of scripts, as they are made.
use Rattle.std.specs.Prelude.{ℕ, ◌≡◌, List, Option}
use Rattle.ix_run.specs.Lines.{LimitedLine}
use Rattle.ix_run.specs.Script.{replies_to_lines, container_replies}
use Rattle.ix_run.specs.declared.run.grammar.header.Container.{Container}

-- the model is that of an empty container of this capacity: it brings the same replies
abbrev pub IsEmptyContainer : {M : Type 0} → (M → List ℕ → Option (List ℕ)) → (M → List ℕ → M) → (M → List ℕ) → M → Container → ℕ → Type 0
IsEmptyContainer reply after shown m container n = (lines : List LimitedLine) → replies_to_lines reply after shown m lines ≡ container_replies container n lines
