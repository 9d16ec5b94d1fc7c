use Rattle.std.proofs.Common.{rules, ◌∙◌, ◌/◌, length, sym}
use Rattle.ix_semantic_string.proofs.Eights.{list_any-chunk, list_any-rest}
use Rattle.ix_semantic_string.proofs.semantic_string.group_name.GroupNameRulesRules31.invalid_characters.Goals as goal

pub returns-then-is_invalid_eight : goal.returns-then-is_invalid_eight
returns-then-is_invalid_eight c =
    sym (list_any-chunk _ 8 (length c.args.bytes.now / 8) c.loop-eight.eight-index c.args.bytes.now c.as_chunks.result.0.now c.as_chunks.ensures.front (search rules) (sym c.is_invalid_eight.ensures ∙ c.if-is_invalid_eight.true))

pub returns : goal.returns
returns c =
    rw (c.has_invalid_byte.ensures, c.as_chunks.ensures.back)
    (list_any-rest _ 8 (length c.args.bytes.now / 8) c.loop-eight.eight-index c.args.bytes.now c.as_chunks.result.0.now c.as_chunks.ensures.front (search rules) c.loop-eight.invariant)
