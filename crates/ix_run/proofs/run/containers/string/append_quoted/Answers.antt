use Rattle.std.proofs.Common.{codes, ◌++◌}
use Rattle.std.proofs.lemmas.Result.{err_from_is_err_and}
use Rattle.ix_string.specs.Escape.{escaped_text}
use Rattle.ix_run.proofs.Writing.{WriteResult_append, WriterAppendsPart_append}
use Rattle.ix_run.proofs.run.containers.string.append_quoted.Goals as goal

pub returns-in_err-append : goal.returns-in_err-append
returns-in_err-append g c =
    let p = err_from_is_err_and c.from_residual.result c.from_residual.ensures.1 in
    let rest = escaped_text c.args.bytes.now ++ codes "\"" in
    rw (p.1, p.2) (c.in_err-append.ensures.0, WriterAppendsPart_append g.W.Write.contents c.args.replies.now c.append.new.self (codes "\"") rest c.in_err-append.ensures.1)

pub returns : goal.returns
returns g c =
    let rest = escaped_text c.args.bytes.now ++ codes "\"" in
    WriteResult_append g.W.Write.contents c.args.replies.now c.append.new.self c.append_escaped_then_quote.new.replies (codes "\"") rest _ c.in_ok-append.ensures c.append_escaped_then_quote.ensures
