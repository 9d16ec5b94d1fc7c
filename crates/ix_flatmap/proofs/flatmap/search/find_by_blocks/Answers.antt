use Rattle.std.proofs.Common.{◌≡◌, ◌+◌, ◌*◌, subst, sym, ap, ◌∙◌, arith}
use Rattle.ix_flatmap.specs.inner.FlatSearch.{is_key_at, HasNoKeyIn}
use Rattle.ix_flatmap.proofs.MapEntries.{map_entry-is_key_at, HasNoKeyIn-more}
use Rattle.ix_flatmap.proofs.flatmap.search.find_by_blocks.Goals as goal

pub returns-then-index-lt-BLOCK_LEN : goal.returns-then-index-lt-BLOCK_LEN
returns-then-index-lt-BLOCK_LEN g c =
    let eq = g.K.PartialEq.eq in
    let map = c.args.pairs.now in
    let key = c.args.key.now in
    let place = c.new-place.result in
    let distinct = c.requires.distinct in
    let at = c.get_unchecked.ensures in
    let equal = ap (is_key_at eq map key) c.new-place.ensures ∙ c.index_in_block-index.ensures.1 c.if-index-lt-BLOCK_LEN.true in
    sym (map_entry-is_key_at eq g.met.K.Eq.laws map key place c.get_unchecked.result.now distinct at equal)

pub loop-block-preserved : goal.loop-block-preserved
loop-block-preserved g c =
    let map = c.args.pairs.now in
    let key = c.args.key.now in
    let least = c.if-index-lt-BLOCK_LEN.false in
    let most = c.index_in_block-index.ensures.0 in
    let none = c.index_in_block-index.ensures.2 (omega (arith, least, most)) in
    let next : c.loop-block.block * 8 + 8 ≡ (c.loop-block.block + 1) * 8 = omega arith in
    subst (HasNoKeyIn g.K.PartialEq.eq map key 0) next (HasNoKeyIn-more g.K.PartialEq.eq map key (c.loop-block.block * 8) 8 c.loop-block.invariant none)
