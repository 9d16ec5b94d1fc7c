use Rattle.std.proofs.Common.{ℕ, List, ◌≡◌, ◌≤◌, ◌<◌, ◌++◌, [], Some}
use Rattle.ix_run.specs.inner.Input.{lines_from, lines_to_come}
use Rattle.ix_run.specs.inner.NextLine.{Reads, Coming}
use Rattle.ix_run.specs.inner.Writing.{WriterAppends}
use Rattle.ix_run.proofs.run.devices.line_reader.LineReader.next_line.Given as goal

-- the lines to come at the start are those that continue the current line now
abbrev pub invariant-loop-self : goal.invariant-loop-self
invariant-loop-self g l =
    (l.self.buffer.in_place ≡ [])
    × (read : List ℕ)
    × Reads g.R.Read.remaining l.fn.self l.self read
    × WriterAppends g.W.Write.contents l.fn.replies [] l.replies
    × ((more : Coming l.self) → lines_to_come l.fn.self.buffer (read ++ more.0) ≡ lines_from l.self.buffer.joined (l.self.buffer.rest ++ more.0))
    × (l.self.buffer.fuel ≤ l.fn.self.buffer.fuel)
    × ((l.self.buffer.joined ≡ Some [] → ⊥) → l.self.buffer.fuel < l.fn.self.buffer.fuel)

abbrev pub decreases-loop-self : goal.decreases-loop-self
decreases-loop-self g l = l.self.buffer.fuel
