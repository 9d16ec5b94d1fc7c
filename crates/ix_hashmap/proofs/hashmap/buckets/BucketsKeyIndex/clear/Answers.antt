use Rattle.std.proofs.Common.{length, None, sym, ap, ◌∙◌}
use Rattle.std.proofs.lemmas.List.{length-replicate}
use Rattle.ix_tables.specs.Places.{place_at}
use Rattle.ix_hashmap.proofs.HashSteps.{IsIndexed-empty}
use Rattle.ix_tables.proofs.VacantTables.{place_at-replicate}
use Rattle.ix_hashmap.proofs.hashmap.buckets.BucketsKeyIndex.clear.Goals as goal

pub returns-clause-fits : goal.returns-clause-fits
returns-clause-fits g c =
    let places = length c.args.pairs.now.values in
    let emptied = c.clear.ensures.values in
    let fits = c.requires in
    IsIndexed-empty _ _ c.clear.new.self c.clear-2.new.self (length c.args.self.now.links) c.clear-2.ensures (fits.lengths ∙ sym (ap length emptied ∙ length-replicate places None)) (λ yes. (fits.chains yes).fits)
    (λ place. ap (λ values. place_at values place) emptied ∙ place_at-replicate places place)
