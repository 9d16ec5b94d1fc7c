use Rattle.std.proofs.Common.{rules, ◌∙◌, ◌<◌, ap, length, arith}
use Rattle.std.specs.Prelude.{nat_eq}
use Rattle.std.proofs.lemmas.Bool.Decides.{nat_tests}
use Rattle.std.proofs.lemmas.Cmp.{nat_eq_equiv}
use Rattle.ix_slottable.specs.KeyLists.{without}
use Rattle.ix_slottable.proofs.KeyLists.{length-without, count-used_last, length-used_last}
use Rattle.examples.proofs.cache.touch.Goals as goal

pub returns-clause-items : goal.returns-clause-items
returns-clause-items c =
    let all = length-without nat_eq nat_eq_equiv c.args.key c.args.order.now.items in
    let once = c.requires in
    let room : length (without nat_eq c.args.key c.args.order.now.items) < length c.args.order.now.items = omega (arith, all, once) in search (rules, room)

pub returns-clause-counts : goal.returns-clause-counts
returns-clause-counts c other =
    let moved = count-used_last nat_eq nat_eq_equiv c.args.key c.args.order.now.items c.requires (λ a b equal. grind (arith, nat_tests)) other in
    let items = returns-clause-items c in search (rules, items, moved)

pub returns-clause-len : goal.returns-clause-len
returns-clause-len c = ap length (returns-clause-items c) ∙ length-used_last nat_eq nat_eq_equiv c.args.key c.args.order.now.items c.requires
