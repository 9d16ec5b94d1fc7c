use Rattle.std.proofs.Common.{◌≡◌, Some, IsSome, refl, sym, ap, ◌∙◌, subst}
use Rattle.std.specs.Prelude.{option_map, IfSome}
use Rattle.ix_flatmap.specs.MapState.{map_entry, map_value, map_item}
use Rattle.ix_flatmap.proofs.MapEntries.{map_entry-place}
use Rattle.ix_flatmap.proofs.MapSteps.{HasDistinctKeys-removed, map_value-removed, map_value-removed_other}
use Rattle.ix_flatmap.proofs.map.meta_map.MetaMap+Pair+K+V+M+I.remove_entry.Goals as goal

pub remove-pair-requires-clause-held : goal.remove-pair-requires-clause-held
remove-pair-requires-clause-held g c =
    subst IsSome (sym (map_entry-place g.K.PartialEq.eq c.self.inside.pairs c.args.key.now c.in_ok-place.place c.in_ok-place.ensures).2.at) refl

pub remove-pair-requires-clause-seat : goal.remove-pair-requires-clause-seat
remove-pair-requires-clause-seat g c pair at =
    let entry = map_entry-place g.K.PartialEq.eq c.self.inside.pairs c.args.key.now c.in_ok-place.place c.in_ok-place.ensures in
    let both : Some entry.0 ≡ Some pair = sym entry.2.at ∙ at in
    let is : entry.0 ≡ pair = cc in
    subst (λ (p : _). g.I.KeyIndex.IsSeat c.self.inside.index c.self.inside.pairs p.key c.seat-seat.result) is
    (subst (λ found. IfSome found (λ entry. g.I.KeyIndex.IsSeat c.self.inside.index c.self.inside.pairs entry.1.key c.seat-seat.result)) entry.1 c.seat-seat.ensures.equal)

pub invariant_of-self : goal.invariant_of-self
invariant_of-self g c = (
  HasDistinctKeys-removed g.K.PartialEq.eq g.met.K.Eq.laws c.self.inside.pairs _ c.args.key.now c.in_ok-place.place _ c.in_ok-place.ensures c.remove-pair.ensures.step c.self.invariant.0,
  c.remove-pair.ensures.fits,
)

pub returns-clause-value : goal.returns-clause-value
returns-clause-value g c =
    let eq = g.K.PartialEq.eq in
    let key = c.args.key.now in
    let entry = map_entry-place eq c.self.inside.pairs key c.in_ok-place.place c.in_ok-place.ensures in
    let same = c.remove-pair.ensures.step.value ∙ entry.2.at in
    ap (option_map (λ pair. (pair.key, pair.value))) same ∙ (sym (ap (option_map map_item) entry.1) ∙ ap (λ s. option_map map_item (map_entry eq s key)) c.self.view_is)

pub returns-clause-gone : goal.returns-clause-gone
returns-clause-gone g c =
    map_value-removed g.K.PartialEq.eq g.met.K.Eq.laws c.self.inside.pairs _ c.args.key.now c.in_ok-place.place _ c.in_ok-place.ensures c.remove-pair.ensures.step c.self.invariant.0

pub returns-clause-kept : goal.returns-clause-kept
returns-clause-kept g c other differs =
    map_value-removed_other g.K.PartialEq.eq g.met.K.Eq.laws c.self.inside.pairs _ c.args.key.now c.in_ok-place.place _ c.in_ok-place.ensures c.remove-pair.ensures.step c.self.invariant.0 other differs
    ∙ ap (λ s. map_value g.K.PartialEq.eq s other) c.self.view_is
