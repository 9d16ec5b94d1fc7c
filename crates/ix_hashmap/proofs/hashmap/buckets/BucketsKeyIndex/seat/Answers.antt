use Rattle.std.proofs.Common.{ℕ, ◌*◌, ◌<◌, sym, ap, ◌∙◌, subst}
use Rattle.ix_hashmap.specs.inner.HashChains.{hash_of}
use Rattle.ix_hashmap.proofs.HashSteps.{bucket_of-counted, IsBucket-none, IsBucket-equal}
use Rattle.ix_hashmap.proofs.hashmap.buckets.BucketsKeyIndex.seat.Goals as goal

pub returns-then-places-eq0-clause-seat : goal.returns-then-places-eq0-clause-seat
returns-then-places-eq0-clause-seat g c = IsBucket-none _ c.args.self.now.links (sym c.len-places.ensures.value ∙ c.if-places-eq0.true)

pub returns-then-places-eq0-clause-equal : goal.returns-then-places-eq0-clause-equal
returns-then-places-eq0-clause-equal g c =
    IsBucket-equal g.K.PartialEq.eq _ (λ a b equal. ap (hash_of g.B.Hasher.Hasher.finish g.B.Hasher.Hasher.write (g.B.BuildHasher.build_hasher c.args.self.now.hasher)) (g.met.K.Hash.respects_eq a b equal)) c.args._pairs.now c.args.self.now.links c.args.key.now 0 _
    (returns-then-places-eq0-clause-seat g c)

pub returns-clause-seat : goal.returns-clause-seat
returns-clause-seat g c = record {
  is = bucket_of-counted _ c.bucket_of-number.result c.len-places.result _ c.bucket_of-number.ensures.value c.len-places.ensures.value;
  below = λ some. subst (λ (n : ℕ). c.bucket_of-number.result < 4 * n) c.len-places.ensures.value c.bucket_of-number.ensures.below;
  starts = c.head.ensures;
}

pub returns-clause-equal : goal.returns-clause-equal
returns-clause-equal g c =
    IsBucket-equal g.K.PartialEq.eq _ (λ a b equal. ap (hash_of g.B.Hasher.Hasher.finish g.B.Hasher.Hasher.write (g.B.BuildHasher.build_hasher c.args.self.now.hasher)) (g.met.K.Hash.respects_eq a b equal)) c.args._pairs.now c.args.self.now.links c.args.key.now _ _
    (returns-clause-seat g c)
