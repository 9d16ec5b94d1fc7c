use Rattle.std.proofs.Common.{IsOk, IsSome, refl, sym, ap, ◌∙◌, subst}
use Rattle.std.specs.Result.{result_ok}
use Rattle.ix_flatmap.specs.MapState.{map_value}
use Rattle.ix_flatmap.proofs.MapEntries.{map_entry-unplaced}
use Rattle.ix_flatmap.proofs.MapSteps.{HasDistinctKeys-inserted, map_value-inserted, map_value-inserted_other}
use Rattle.ix_flatmap.proofs.map.try_insert.MetaMap+Pair+K+V+M+I.try_insert.Goals.{in-Ok, in-Err}
use Rattle.ix_flatmap.proofs.map.try_insert.MetaMap+Pair+K+V+M+I.try_insert.Goals as goal

pub insert-requires-clause-absent : goal.insert-requires-clause-absent
insert-requires-clause-absent g c =
    map_entry-unplaced g.K.PartialEq.eq c.self.inside.pairs c.args.key c.place.result c.place.ensures (sym c.is_some.ensures ∙ c.if-is_some.false)

pub invariant_of-self : goal.invariant_of-self
invariant_of-self g c =
    let fresh = map_entry-unplaced g.K.PartialEq.eq c.self.inside.pairs c.args.key c.place.result c.place.ensures (sym c.is_some.ensures ∙ c.if-is_some.false) in (
      HasDistinctKeys-inserted g.K.PartialEq.eq g.met.K.Eq.laws c.self.inside.pairs _ _ _ c.insert.ensures.step c.self.invariant.0 fresh,
      c.insert.ensures.fits,
    )

pub returns-clause-holds : goal.returns-clause-holds
returns-clause-holds g c ok =
    let fresh = map_entry-unplaced g.K.PartialEq.eq c.self.inside.pairs c.args.key c.place.result c.place.ensures (sym c.is_some.ensures ∙ c.if-is_some.false) in
    map_value-inserted g.K.PartialEq.eq g.met.K.Eq.laws c.self.inside.pairs _ _ _ c.insert.ensures.step c.self.invariant.0 fresh
    (elim c.match-insert.branch [
      | in-Ok w ↦ subst (λ result. IsSome (result_ok result)) (sym w.in-Ok.is) refl
      | in-Err w ↦ absurd (let refused = subst IsOk w.result-is ok in cc)
    ])

pub returns-clause-kept : goal.returns-clause-kept
returns-clause-kept g c other differs =
    let fresh = map_entry-unplaced g.K.PartialEq.eq c.self.inside.pairs c.args.key c.place.result c.place.ensures (sym c.is_some.ensures ∙ c.if-is_some.false) in
    map_value-inserted_other g.K.PartialEq.eq g.met.K.Eq.laws c.self.inside.pairs _ _ _ c.insert.ensures.step c.self.invariant.0 fresh other differs
    ∙ ap (λ s. map_value g.K.PartialEq.eq s other) c.self.view_is

pub returns-clause-distinct : goal.returns-clause-distinct
returns-clause-distinct g c =
    let fresh = map_entry-unplaced g.K.PartialEq.eq c.self.inside.pairs c.args.key c.place.result c.place.ensures (sym c.is_some.ensures ∙ c.if-is_some.false) in
    HasDistinctKeys-inserted g.K.PartialEq.eq g.met.K.Eq.laws c.self.inside.pairs _ _ _ c.insert.ensures.step c.self.invariant.0 fresh
