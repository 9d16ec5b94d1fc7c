use Rattle.std.proofs.Common.{◌≡◌, ◌<◌, true, length, get_or, arith, sym, nat_eq}
use Rattle.std.proofs.lemmas.Grind.{common_steps}
use Rattle.std.proofs.lemmas.List.Sums.{position_or_len_is}
use Rattle.ix_run.proofs.run.grammar.words.word_len.Goals as goal

pub returns-after-loop-len-clause-value : goal.returns-after-loop-len-clause-value
returns-after-loop-len-clause-value c =
    let test = c.loop-len-test.false in
    let space : c.loop-len.len < length c.args.bytes.now → nat_eq (get_or c.args.bytes.now c.loop-len.len 0) c.args.separator ≡ true = grind (arith, common_steps) in
    sym (position_or_len_is (λ byte. nat_eq byte c.args.separator) c.args.bytes.now c.loop-len.len 0 c.loop-len.invariant.within c.loop-len.invariant.before space)

pub returns-else-bytes-len-clause-value : goal.returns-else-bytes-len-clause-value
returns-else-bytes-len-clause-value c =
    let space : c.loop-len.len < length c.args.bytes.now → nat_eq (get_or c.args.bytes.now c.loop-len.len 0) c.args.separator ≡ true = grind (arith, common_steps) in
    sym (position_or_len_is (λ byte. nat_eq byte c.args.separator) c.args.bytes.now c.loop-len.len 0 c.loop-len.invariant.within c.loop-len.invariant.before space)
