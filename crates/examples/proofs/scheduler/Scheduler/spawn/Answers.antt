use Rattle.std.proofs.Common.{rules, ◌≡◌, ◌<◌, ◌++◌, ◌∷◌, [], nat_eq, subst, sym}
use Rattle.ix_maps.specs.SlotTableState.{value_at}
use Rattle.ix_slottable.specs.KeyLists.{ListsEach}
use Rattle.ix_slottable.proofs.KeyLists.{ListsEach-pushed}
use Rattle.std.proofs.lemmas.Cmp.{nat_eq_equiv}
use Rattle.examples.proofs.scheduler.Scheduler.spawn.Goals as goal

pub invariant_of-self-2-clause-are_ready : goal.invariant_of-self-2-clause-are_ready
invariant_of-self-2-clause-are_ready c =
    let pushed : c.push-pushed.new.self.items ≡ c.args.self.now.ready.items ++ c.in_ok-key.key ∷ [] = search rules in
    subst (ListsEach nat_eq (λ left. 0 < left) (value_at c.insert.new.self)) (sym pushed)
    (ListsEach-pushed nat_eq nat_eq_equiv c.args.self.now.ready.items c.args.self.now.are_ready c.in_ok-key.key (λ other apart. c.in_ok-key.ensures.step.kept other (search (rules, apart))))
