use Rattle.std.proofs.Common.{◌≡◌, Some, sym, ◌∙◌, subst}
use Rattle.ix_flatmap.proofs.MapSteps.{HasDistinctKeys-vacated}
use Rattle.ix_flatmap.proofs.map.retain.MetaMap+Pair+K+V+M+I.remove_at.Goals as goal

pub remove-requires-clause-seat : goal.remove-requires-clause-seat
remove-requires-clause-seat g c pair at =
    let both : Some c.get_unchecked-pair.result.now ≡ Some pair = sym c.get_unchecked-pair.ensures ∙ at in
    let is : c.get_unchecked-pair.result.now ≡ pair = cc in
    subst (λ (p : _). g.I.KeyIndex.IsSeat c.self.inside.index c.self.inside.pairs p.key c.seat-seat.result) is c.seat-seat.ensures.seat

pub invariant_of-self : goal.invariant_of-self
invariant_of-self g c = (
  HasDistinctKeys-vacated g.K.PartialEq.eq g.met.K.Eq.laws c.self.inside.pairs _ c.args.place _ c.remove.ensures.step c.self.invariant.0,
  c.remove.ensures.fits,
)

pub returns-clause-distinct : goal.returns-clause-distinct
returns-clause-distinct g c = HasDistinctKeys-vacated g.K.PartialEq.eq g.met.K.Eq.laws c.self.inside.pairs _ c.args.place _ c.remove.ensures.step c.self.invariant.0
