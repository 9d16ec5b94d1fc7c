use Rattle.std.proofs.Common.{ℕ, List, ◌≡◌, ◌++◌, drop}
use Rattle.ix_string.specs.Escape.{escaped_text}
use Rattle.ix_run.specs.inner.Writing.{WriterAppends}
use Rattle.ix_run.proofs.run.containers.string.append_escaped_bytes.Given as goal

abbrev pub invariant-loop-byte : goal.invariant-loop-byte
invariant-loop-byte g l =
    (so_far : List ℕ)
    × (escaped_text l.bytes ≡ so_far ++ escaped_text (drop l.byte-index l.bytes))
    × WriterAppends g.W.Write.contents l.fn.replies so_far l.replies
