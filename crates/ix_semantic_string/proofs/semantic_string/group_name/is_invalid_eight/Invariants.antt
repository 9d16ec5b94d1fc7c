use Rattle.std.proofs.Common.{◌≡◌, take}
use Rattle.ix_semantic_string.specs.SampleRules.{group_name_rules}
use Rattle.ix_semantic_string.proofs.semantic_string.group_name.is_invalid_eight.Given as goal

abbrev pub invariant-loop-byte : goal.invariant-loop-byte
invariant-loop-byte l = l.found ≡ group_name_rules.invalid_characters (take l.byte-index l.eight)
