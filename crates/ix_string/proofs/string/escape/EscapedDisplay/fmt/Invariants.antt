use Rattle.std.proofs.Common.{take}
use Rattle.std.specs.Fmt.{HasWritten, IsPlainFormatter}
use Rattle.ix_string.specs.Escape.{escaped_text}
use Rattle.ix_string.proofs.string.escape.EscapedDisplay.fmt.Given as goal

abbrev pub invariant-loop-byte : goal.invariant-loop-byte
invariant-loop-byte g l =
    IsPlainFormatter l.initial.f → HasWritten g.W.Write.write_str_gives l.initial.f (escaped_text (take l.byte-index l.byte-items)) l.f
