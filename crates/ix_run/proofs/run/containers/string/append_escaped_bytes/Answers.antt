use Rattle.std.proofs.Common.{◌+◌, ◌++◌, ◌∙◌, get_or, drop, sym, ap, append_assoc}
use Rattle.std.proofs.lemmas.List.{drop_more}
use Rattle.std.proofs.lemmas.Result.{err_from_is_err_and}
use Rattle.ix_string.specs.Escape.{escaped_byte, escaped_text}
use Rattle.ix_run.proofs.Writing.{WriterAppends-append, WriterAppendsPart-WriterAppends, WriterAppendsPart_append}
use Rattle.ix_run.proofs.run.containers.string.append_escaped_bytes.Goals as goal

pub returns-in_err-append_part : goal.returns-in_err-append_part
returns-in_err-append_part g c =
    let p = err_from_is_err_and c.from_residual.result c.from_residual.ensures.1 in
    let bytes = c.args.bytes.now in
    let from = c.args.replies.now in
    let here = c.loop-byte.replies in
    let next = c.append_part.new.self in
    let i = c.loop-byte.byte-index in
    let at = c.loop-byte.invariant in
    let word = escaped_byte (get_or bytes i 0) in
    let rest = escaped_text (drop (i + 1) bytes) in
    let whole = at.1 ∙ ap (λ l. at.0 ++ escaped_text l) (drop_more bytes i 0 c.loop-byte-test.true) ∙ sym (append_assoc at.0 word rest) in
    rw (p.1, p.2, whole) (
      c.in_err-append_part.ensures.0,
      WriterAppendsPart_append g.W.Write.contents from next (at.0 ++ word) rest (WriterAppendsPart-WriterAppends g.W.Write.contents from here next at.0 word at.2 c.in_err-append_part.ensures.1),
    )

pub loop-byte-preserved : goal.loop-byte-preserved
loop-byte-preserved g c =
    let bytes = c.args.bytes.now in
    let from = c.args.replies.now in
    let here = c.loop-byte.replies in
    let next = c.append_part.new.self in
    let i = c.loop-byte.byte-index in
    let at = c.loop-byte.invariant in
    let word = escaped_byte (get_or bytes i 0) in
    let rest = escaped_text (drop (i + 1) bytes) in
    let whole = at.1 ∙ ap (λ l. at.0 ++ escaped_text l) (drop_more bytes i 0 c.loop-byte-test.true) ∙ sym (append_assoc at.0 word rest) in
    (at.0 ++ word, whole, WriterAppends-append g.W.Write.contents from here next at.0 word at.2 c.in_ok-append_part.ensures)
