use Rattle.std.proofs.Common.{◌∙◌, arith}
use Rattle.ix_hashmap.proofs.HashSteps.{IsIndexed-new}
use Rattle.ix_hashmap.proofs.hashmap.buckets.BucketsHeapHeapIndex.new_in.Goals as goal

pub returns-clause-value : goal.returns-clause-value
returns-clause-value g c =
    let few = c.if-capacity-gt-MAX_FIXED_CAPACITY.false in
    IsIndexed-new _ _ c.args.capacity c.new-2.result (c.new-2.ensures ∙ c.in_ok-links.ensures.value) (λ yes. omega (arith, few))
