use Rattle.std.proofs.Common.{rules, ◌≡◌, [], ◌∷◌, ◌++◌, sym, ap, ◌∙◌}
use Rattle.std.specs.Prelude.{nat_eq, is_some, if◌then◌else◌}
use Rattle.std.proofs.lemmas.Cmp.{nat_eq_equiv}
use Rattle.ix_slottable.proofs.KeyLists.{without-absent}
use Rattle.examples.proofs.cache.insert_new.Goals as goal

pub returns-clause-used : goal.returns-clause-used
returns-clause-used c =
    let key = c.args.key in
    let keys = c.args.order.now.items in
    let pushed : c.push-pushed.new.self.items ≡ keys ++ key ∷ [] = search rules in
    let absent = without-absent nat_eq nat_eq_equiv key keys (c.requires.in_step.once key ∙ ap (λ held. if is_some held then 1 else 0) c.requires.new) in
    pushed ∙ ap (λ others. others ++ key ∷ []) (sym absent)
