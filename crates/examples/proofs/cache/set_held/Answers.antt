use Rattle.std.proofs.Common.{rules, ◌≡◌, nat_eq, inl, inr, sym, ap, subst, ◌∙◌, arith}
use Rattle.std.specs.Prelude.{IsOk, is_some}
use Rattle.std.proofs.lemmas.Bool.{cases_eq}
use Rattle.std.proofs.lemmas.Bool.Decides.{nat_tests}
use Rattle.std.proofs.lemmas.Cmp.{nat_eq_equiv}
use Rattle.ix_slottable.specs.SlotTableState.{held_count}
use Rattle.ix_slottable.specs.KeyLists.{IsInStep}
use Rattle.ix_slottable.proofs.KeyLists.{IsInStep-used}
use Rattle.ix_flatmap.specs.MapState.{map_value}
use Rattle.examples.proofs.cache.set_held.Goals as goal

pub returns-clause-in_step : goal.returns-clause-in_step
returns-clause-in_step c =
    let old = c.args.values.now in
    let new = c.replace.new.self in
    let key = c.args.key in
    let replaced : IsOk c.replace.result = search rules in
    subst (IsInStep nat_eq (map_value nat_eq new) (held_count new)) (sym c.touch.ensures.items)
    (IsInStep-used nat_eq nat_eq_equiv (λ a b equal. grind (arith, nat_tests)) (map_value nat_eq old) (map_value nat_eq new) (held_count old) (held_count new) c.args.order.now.items key c.requires.in_step c.requires.held
    (λ other. elim (cases_eq other key) [
      | inl same ↦ subst (λ k. is_some (map_value nat_eq new k) ≡ is_some (map_value nat_eq old k)) (sym same) (ap is_some (c.replace.ensures.holds replaced) ∙ sym c.requires.held)
      | inr apart ↦ ap is_some (c.replace.ensures.kept other (search (rules, apart)))
    ])
    (c.replace.ensures.same_count c.requires.held))
