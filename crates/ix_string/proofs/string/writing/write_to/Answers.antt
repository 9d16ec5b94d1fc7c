use Rattle.ix_string.proofs.Texts.{IsOk-text_insert_result}
use Rattle.ix_string.proofs.string.writing.write_to.Goals as goal

pub returns-clause-value : goal.returns-clause-value
returns-clause-value g c =
    rw (c.or.ensures, c.push_str.ensures.value) (IsOk-text_insert_result _ (g.S.String.bounded c.args.string.now) c.args.text.now)
