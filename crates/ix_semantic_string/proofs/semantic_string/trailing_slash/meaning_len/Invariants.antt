use Rattle.std.proofs.Common.{◌-◌, ◌≡◌, ◌≤◌, length, take, ◌+◌}
use Rattle.std.specs.List.{suffix_len}
use Rattle.std.specs.Prelude.{min}
use Rattle.ix_semantic_string.specs.SampleRules.{is_slash}
use Rattle.ix_semantic_string.proofs.semantic_string.trailing_slash.meaning_len.Given as goal

-- the bytes from len on are slashes
abbrev pub invariant-loop-len : goal.invariant-loop-len
invariant-loop-len l =
    (l.len ≤ length l.bytes)
    × (min 1 (length l.bytes) ≤ l.len)
    × (suffix_len is_slash (take l.len l.bytes) + (length l.bytes - l.len) ≡ suffix_len is_slash l.bytes)

abbrev pub decreases-loop-len : goal.decreases-loop-len
decreases-loop-len l = l.len
