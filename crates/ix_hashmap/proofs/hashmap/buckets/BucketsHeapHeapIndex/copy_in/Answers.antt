use Rattle.std.proofs.Common.{refl, sym, subst, true}
use Rattle.ix_hashmap.specs.inner.HashChains.{hash_of, IsIndexed}
use Rattle.ix_hashmap.proofs.HashSteps.{IsIndexed-equal}
use Rattle.ix_hashmap.proofs.hashmap.buckets.BucketsHeapHeapIndex.copy_in.Goals as goal

pub returns-clause-value : goal.returns-clause-value
returns-clause-value g c pairs fits =
    subst (λ (hasher : g.row.B.Denot). IsIndexed true (λ pair. hash_of g.B.Hasher.Hasher.finish g.B.Hasher.Hasher.write (g.B.BuildHasher.build_hasher hasher) (g.K.Hash.hash_input pair.key)) pairs c.copy_of.result)
    (sym c.requires) (IsIndexed-equal _ _ pairs pairs c.args.self.now.links _ refl c.copy_of.ensures fits)
