use Rattle.std.proofs.Common.{ℕ, sym, ap, ◌∙◌, subst}
use Rattle.ix_hashmap.specs.inner.HashChains.{links_set_head, links_set_next, head_at, IsBefore}
use Rattle.ix_hashmap.proofs.HashChains.{IsUnlinked-first, IsUnlinked-later, IsBefore-within}
use Rattle.ix_hashmap.proofs.hashmap.chain_table.ChainTable.remove.Goals as goal

pub next-next-requires : goal.next-next-requires
next-next-requires g c = c.requires.chain.within c.args.place c.requires.has

pub returns-then-first-place : goal.returns-then-first-place
returns-then-first-place g c =
    IsUnlinked-first c.args.self.now c.args.bucket c.args.place _ c.requires.chain c.requires.has (sym c.requires.first ∙ c.if-first-place.true)
    (c.set_head.ensures.links ∙ ap (λ (next : ℕ). links_set_head c.args.self.now c.args.bucket next) c.next-next.ensures) (c.set_head.ensures.head ∙ c.next-next.ensures)

pub set_next-requires : goal.set_next-requires
set_next-requires g c =
    IsBefore-within c.args.self.now (head_at c.args.self.now c.args.bucket) c.before-previous.result c.args.place c.requires.chain
    (subst (λ (first : ℕ). IsBefore c.args.self.now first c.before-previous.result c.args.place) c.requires.first c.before-previous.ensures)

pub returns : goal.returns
returns g c =
    IsUnlinked-later c.args.self.now c.args.bucket c.args.place c.before-previous.result _ c.requires.chain
    (subst (λ (first : ℕ). IsBefore c.args.self.now first c.before-previous.result c.args.place) c.requires.first c.before-previous.ensures)
    (c.set_next.ensures ∙ ap (λ (next : ℕ). links_set_next c.args.self.now c.before-previous.result next) c.next-next.ensures)
