use Rattle.std.proofs.Common.{◌≡◌, take}
use Rattle.ix_string.specs.Text.{is_text}
use Rattle.ix_string.proofs.string.text.is_text.Given as goal

abbrev pub invariant-loop-byte : goal.invariant-loop-byte
invariant-loop-byte l = l.all ≡ is_text (take l.byte-index l.bytes)
