use Rattle.std.proofs.Common.{◌<◌, length, take, get_or, sym, ap, ◌∙◌, arith}
use Rattle.std.proofs.lemmas.List.{ext_get_or, get_or-take, length-take-le}
use Rattle.std.proofs.lemmas.Slice.Eq.{bytes_eq-Decides}
use Rattle.ix_run.proofs.Words.{bytes_differ}
use Rattle.ix_run.proofs.run.grammar.words.begins_with.Goals as goal

pub returns-then-line-i : goal.returns-then-line-i
returns-then-line-i c =
    let line = c.args.line.now in
    let name = c.args.name.now in
    let i = c.loop-i.i in
    sym (bytes_differ (take (length name) line) name (λ e. c.if-line-i.true (sym (get_or-take (length name) line i 0 c.loop-i-test.true) ∙ ap (λ l. get_or l i 0) e)))

pub returns : goal.returns
returns c =
    let line = c.args.line.now in
    let name = c.args.name.now in
    let len = length-take-le (length name) line c.if-line-name.false in
    let same = ext_get_or 0 (take (length name) line) name len (λ k l.
    let inside : k < length name = omega (arith, l, len) in
    get_or-take (length name) line k 0 inside ∙ c.loop-i.invariant k (omega (arith, inside, c.loop-i-test.false))) in
    sym ((bytes_eq-Decides (take (length name) line) name).1 same)
