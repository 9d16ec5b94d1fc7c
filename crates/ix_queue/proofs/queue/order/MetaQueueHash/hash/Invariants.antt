use Rattle.std.proofs.Common.{◌≡◌}
use Rattle.std.specs.List.{fold, flat_map}
use Rattle.std.specs.Hash as fed
use Rattle.ix_queue.proofs.queue.order.MetaQueueHash.hash.Given as goal

-- feeding the items that are left, too, feeds all
abbrev pub invariant-loop-item : goal.invariant-loop-item
invariant-loop-item g l = fold g.H.Hasher.write l.state (flat_map g.T.Hash.hash_input l.item-iterator) ≡ fold g.H.Hasher.write l.fn.state (fed.slice g.T.Hash.hash_input l.self.items)
