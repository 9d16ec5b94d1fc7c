use Rattle.std.proofs.Common.{◌≡◌, Some, None, IsSome, IsOk, refl, sym, ap, ◌∙◌, subst}
use Rattle.std.specs.Result.{result_ok}
use Rattle.std.specs.Prelude.{option_map}
use Rattle.ix_flatmap.specs.MapState.{HasDistinctKeys, map_entry, map_value}
use Rattle.ix_flatmap.specs.MapSteps.{pair_set}
use Rattle.ix_flatmap.proofs.MapEntries.{map_entry-place, map_entry-unplaced}
use Rattle.ix_flatmap.proofs.MapSteps.{HasDistinctKeys-inserted, map_value-inserted, map_value-inserted_other, pair_set-place, map_value-map_set, map_value-map_set_other}
use Rattle.ix_flatmap.proofs.map.try_insert.MetaMap+Pair+K+V+M+I.replace.Goals.{in-Ok, in-Err}
use Rattle.ix_flatmap.proofs.map.try_insert.MetaMap+Pair+K+V+M+I.replace.Goals as goal

pub value_mut-requires : goal.value_mut-requires
value_mut-requires g c =
    let eq = g.K.PartialEq.eq in
    let has = subst (λ s. Some c.in-Some.place ≡ option_map (λ e. e.0) (map_entry eq s c.args.key)) c.self.view_is c.in-Some.ensures in
    subst IsSome (sym (map_entry-place eq c.args.self.now c.args.key c.in-Some.place has).2.at) refl

pub returns-in-Some-clause-value : goal.returns-in-Some-clause-value
returns-in-Some-clause-value g c =
    let eq = g.K.PartialEq.eq in
    let has = subst (λ s. Some c.in-Some.place ≡ option_map (λ e. e.0) (map_entry eq s c.args.key)) c.self.view_is c.in-Some.ensures in
    let entry = map_entry-place eq c.args.self.now c.args.key c.in-Some.place has in
    ap Some c.replace.ensures.value ∙ sym c.value_mut.ensures.value
    ∙ (ap (option_map (λ pair. pair.value)) entry.2.at ∙ sym (ap (option_map (λ e. e.1.value)) entry.1))

pub returns-in-Some-clause-holds : goal.returns-in-Some-clause-holds
returns-in-Some-clause-holds g c ok =
    let eq = g.K.PartialEq.eq in
    let has = subst (λ s. Some c.in-Some.place ≡ option_map (λ e. e.0) (map_entry eq s c.args.key)) c.self.view_is c.in-Some.ensures in
    let entry = map_entry-place eq c.args.self.now c.args.key c.in-Some.place has in
    ap (λ written. map_value eq (pair_set c.args.self.now c.in-Some.place written) c.args.key) c.replace.ensures.after
    ∙ ap (λ s. map_value eq s c.args.key) (pair_set-place eq g.met.K.Eq.laws c.args.self.now c.args.key c.args.value (subst (HasDistinctKeys eq) c.self.view_is c.self.invariant.0) c.in-Some.place has)
    ∙ map_value-map_set eq g.met.K.Eq.laws c.args.self.now c.args.key c.args.value (subst (HasDistinctKeys eq) c.self.view_is c.self.invariant.0)
    (subst IsSome (sym (ap (option_map (λ e. e.1.value)) entry.1)) refl)

pub returns-in-Some-clause-kept : goal.returns-in-Some-clause-kept
returns-in-Some-clause-kept g c other differs =
    let eq = g.K.PartialEq.eq in
    let has = subst (λ s. Some c.in-Some.place ≡ option_map (λ e. e.0) (map_entry eq s c.args.key)) c.self.view_is c.in-Some.ensures in
    ap (λ written. map_value eq (pair_set c.args.self.now c.in-Some.place written) other) c.replace.ensures.after
    ∙ ap (λ s. map_value eq s other) (pair_set-place eq g.met.K.Eq.laws c.args.self.now c.args.key c.args.value (subst (HasDistinctKeys eq) c.self.view_is c.self.invariant.0) c.in-Some.place has)
    ∙ map_value-map_set_other eq g.met.K.Eq.laws c.args.self.now c.args.key c.args.value (subst (HasDistinctKeys eq) c.self.view_is c.self.invariant.0) other differs

pub insert-requires-clause-absent : goal.insert-requires-clause-absent
insert-requires-clause-absent g c = map_entry-unplaced g.K.PartialEq.eq c.self.inside.pairs c.args.key None c.in_default.ensures refl

pub invariant_of-self : goal.invariant_of-self
invariant_of-self g c =
    let fresh = map_entry-unplaced g.K.PartialEq.eq c.self.inside.pairs c.args.key None c.in_default.ensures refl in (
      HasDistinctKeys-inserted g.K.PartialEq.eq g.met.K.Eq.laws c.self.inside.pairs _ _ _ c.insert.ensures.step c.self.invariant.0 fresh,
      c.insert.ensures.fits,
    )

pub returns-clause-holds : goal.returns-clause-holds
returns-clause-holds g c ok =
    let fresh = map_entry-unplaced g.K.PartialEq.eq c.self.inside.pairs c.args.key None c.in_default.ensures refl in
    map_value-inserted g.K.PartialEq.eq g.met.K.Eq.laws c.self.inside.pairs _ _ _ c.insert.ensures.step c.self.invariant.0 fresh
    (elim c.match-insert.branch [
      | in-Ok w ↦ subst (λ result. IsSome (result_ok result)) (sym w.in-Ok.is) refl
      | in-Err w ↦ absurd (let refused = subst IsOk w.result-is ok in cc)
    ])

pub returns-clause-kept : goal.returns-clause-kept
returns-clause-kept g c other differs =
    let fresh = map_entry-unplaced g.K.PartialEq.eq c.self.inside.pairs c.args.key None c.in_default.ensures refl in
    map_value-inserted_other g.K.PartialEq.eq g.met.K.Eq.laws c.self.inside.pairs _ _ _ c.insert.ensures.step c.self.invariant.0 fresh other differs
    ∙ ap (λ s. map_value g.K.PartialEq.eq s other) c.self.view_is
