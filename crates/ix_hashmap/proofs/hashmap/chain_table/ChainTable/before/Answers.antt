use Rattle.std.proofs.Common.{[], ◌∷◌, ◌++◌, length, sym, ap, ◌∙◌, arith}
use Rattle.std.proofs.lemmas.List.{append_assoc}
use Rattle.ix_hashmap.specs.inner.HashChains.{chain_from}
use Rattle.ix_hashmap.proofs.HashChains.{first_within, IsFollowed-from, IsBefore-from}
use Rattle.ix_hashmap.proofs.hashmap.chain_table.ChainTable.before.Goals as goal

pub next-next-requires : goal.next-next-requires
next-next-requires g c = first_within c.args.self.now c.args.first c.args.place c.requires.chain c.requires.has

pub next-next-requires-in-loop-next : goal.next-next-requires-in-loop-next
next-next-requires-in-loop-next g c =
    let walk = c.loop-next.invariant in
    (IsFollowed-from c.args.self.now c.loop-next.previous c.args.place c.loop-next.next walk.chain walk.has walk.apart walk.follows).within

pub loop-next-smaller : goal.loop-next-smaller
loop-next-smaller g c =
    let walk = c.loop-next.invariant in
    let follows = IsFollowed-from c.args.self.now c.loop-next.previous c.args.place c.loop-next.next walk.chain walk.has walk.apart walk.follows in
    let is = ap length follows.is in omega (arith, is)

pub loop-next-preserved : goal.loop-next-preserved
loop-next-preserved g c =
    let walk = c.loop-next.invariant in
    let follows = IsFollowed-from c.args.self.now c.loop-next.previous c.args.place c.loop-next.next walk.chain walk.has walk.apart walk.follows in record {
      chain = follows.chain;
      has = follows.has;
      apart = c.loop-next-test.true;
      follows = c.next-next-in-loop-next.ensures;
      front = walk.front ++ c.loop-next.previous ∷ [];
      walked = walk.walked ∙ ap (λ places. walk.front ++ places) follows.is ∙ sym (append_assoc walk.front (c.loop-next.previous ∷ []) (chain_from c.args.self.now c.loop-next.next));
    }

pub returns : goal.returns
returns g c =
    let walk = c.loop-next.invariant in
    let follows = IsFollowed-from c.args.self.now c.loop-next.previous c.args.place c.loop-next.next walk.chain walk.has walk.apart walk.follows in
    IsBefore-from c.args.self.now c.args.first c.loop-next.previous c.args.place c.loop-next.next walk.front walk.walked follows c.loop-next-test.false
