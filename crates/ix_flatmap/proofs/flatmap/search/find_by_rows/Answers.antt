use Rattle.std.proofs.Common.{◌≡◌, ◌+◌, ◌*◌, subst, sym, ap, ◌∙◌, refl, arith}
use Rattle.ix_flatmap.specs.inner.FlatSearch.{is_key_at, HasNoKeyIn}
use Rattle.ix_flatmap.proofs.MapEntries.{map_entry-is_key_at, HasNoKeyIn-more}
use Rattle.ix_flatmap.proofs.flatmap.search.find_by_rows.Goals as goal

pub returns-in-Some : goal.returns-in-Some
returns-in-Some g c =
    let eq = g.K.PartialEq.eq in
    let map = c.args.pairs.now in
    let key = c.args.key.now in
    let place = c.new-place.result in
    let distinct = c.requires.distinct in
    let at = c.get_unchecked.ensures in
    let equal = ap (is_key_at eq map key) c.new-place.ensures ∙ c.in-Some.ensures.found in
    sym (map_entry-is_key_at eq g.met.K.Eq.laws map key place c.get_unchecked.result.now distinct at equal)

pub loop-row-preserved : goal.loop-row-preserved
loop-row-preserved g c =
    let map = c.args.pairs.now in
    let key = c.args.key.now in
    let next : c.loop-row.row * 32 + 32 ≡ (c.loop-row.row + 1) * 32 = omega arith in
    subst (HasNoKeyIn g.K.PartialEq.eq map key 0) next (HasNoKeyIn-more g.K.PartialEq.eq map key (c.loop-row.row * 32) 32 c.loop-row.invariant (c.in_default.ensures.absent refl))
