use Rattle.std.proofs.Common.{◌≡◌, true, rules, ℕ, List, length, sym, ap, ◌∙◌, subst}
use Rattle.ix_hashmap.specs.inner.HashChains.{bucket_of, hash_of, LeadsToKey}
use Rattle.ix_hashmap.proofs.HashSteps.{LeadsToKey-hashed}
use Rattle.ix_hashmap.proofs.hashmap.buckets.BucketsKeyIndex.find.Goals as goal

pub find_from-requires-clause-leads : goal.find_from-requires-clause-leads
find_from-requires-clause-leads g c =
    let links = c.args.self.now.links in
    let seat = c.requires.seat in
    let has : g.S.HashMapStorage.has_chains ≡ true = search rules in
    subst (LeadsToKey g.K.PartialEq.eq c.args.pairs.now links c.args.key.now) (sym seat.starts)
    (LeadsToKey-hashed g.K.PartialEq.eq _ c.args.pairs.now links c.args.key.now c.args.seat.number (c.requires.fits.chains has)
    (λ pair equal. ap (λ (input : List (List ℕ)). bucket_of ((hash_of g.B.Hasher.Hasher.finish g.B.Hasher.Hasher.write (g.B.BuildHasher.build_hasher c.args.self.now.hasher)) input) (length links)) (g.met.K.Hash.respects_eq pair.key c.args.key.now equal) ∙ seat.is))
