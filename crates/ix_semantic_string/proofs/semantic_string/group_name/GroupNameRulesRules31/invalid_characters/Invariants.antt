use Rattle.std.proofs.Common.{◌≡◌, take, false}
use Rattle.std.specs.List.{list_any}
use Rattle.ix_semantic_string.specs.SampleRules.{group_name_rules}
use Rattle.ix_semantic_string.proofs.semantic_string.group_name.GroupNameRulesRules31.invalid_characters.Given as goal

-- no eight before has a byte that may not stand in a name
abbrev pub invariant-loop-eight : goal.invariant-loop-eight
invariant-loop-eight l = list_any group_name_rules.invalid_characters (take l.eight-index l.eights) ≡ false
