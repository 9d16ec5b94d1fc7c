use Rattle.std.proofs.Common.{refl, sym, subst}
use Rattle.std.specs.Prelude.{nat_le}
use Rattle.ix_tables.specs.declared.cells.table.TheConstants.{MAX_FIXED_CAPACITY}
use Rattle.ix_hashmap.specs.inner.HashChains.{hash_of, IsIndexed}
use Rattle.ix_hashmap.proofs.HashSteps.{IsIndexed-equal}
use Rattle.ix_hashmap.proofs.hashmap.buckets.BucketsInlineInlineIndex.copy_inline.Goals as goal

pub returns : goal.returns
returns g c pairs fits =
    subst (λ (hasher : g.row.B.Denot). IsIndexed (nat_le g.row.CAPACITY MAX_FIXED_CAPACITY) (λ pair. hash_of g.B.Hasher.Hasher.finish g.B.Hasher.Hasher.write (g.B.BuildHasher.build_hasher hasher) (g.K.Hash.hash_input pair.key)) pairs c.copy_of.result)
    (sym c.requires) (IsIndexed-equal _ _ pairs pairs c.args.self.now.links _ refl c.copy_of.ensures fits)
