use Rattle.std.proofs.Common.{◌∙◌, arith}
use Rattle.std.proofs.lemmas.Bool.Decides.{nat_tests}
use Rattle.ix_hashmap.proofs.HashSteps.{IsIndexed-new}
use Rattle.ix_hashmap.proofs.hashmap.buckets.BucketsInlineInlineIndex.new_inline.Goals as goal

pub returns : goal.returns
returns g c = IsIndexed-new _ _ g.row.CAPACITY c.new.result (c.new.ensures ∙ c.new-links.ensures) (λ few. grind (arith, nat_tests))
