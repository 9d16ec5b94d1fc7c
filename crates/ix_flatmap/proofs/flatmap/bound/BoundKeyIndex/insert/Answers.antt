use Rattle.std.proofs.Common.{sym, ap, ◌∙◌, subst, arith}
use Rattle.ix_flatmap.specs.MapState.{IsBound}
use Rattle.ix_flatmap.specs.inner.Bounds.{bound_with}
use Rattle.ix_flatmap.proofs.FlatBounds.{IsBound-inserted}
use Rattle.ix_flatmap.proofs.flatmap.bound.BoundKeyIndex.insert.Goals as goal

pub bound_with-self-requires : goal.bound_with-self-requires
bound_with-self-requires g c =
    let place = c.value.ensures in
    let below = c.in-Ok.ensures.step.was_free.0 in
    let capacity = c.capacity.ensures.value in
    let fits = c.capacity.type_inv in omega (arith, place, below, capacity, fits)

pub returns-in-Ok-clause-fits : goal.returns-in-Ok-clause-fits
returns-in-Ok-clause-fits g c =
    subst (IsBound c.try_insert.new.self) (sym (c.bound_with-self.ensures ∙ ap (bound_with c.args.self.now.place) c.value.ensures))
    (IsBound-inserted c.args.pairs.now c.try_insert.new.self c.args.self.now.place c.in-Ok.place _ c.requires c.in-Ok.ensures.step)
