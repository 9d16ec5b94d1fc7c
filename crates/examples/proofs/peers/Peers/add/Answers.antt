use Rattle.std.proofs.Common.{rules, refl}
use Rattle.std.specs.Cmp.Lexicographic.{bytes_decides}
use Rattle.ix_slotmap.proofs.SlotMapIndexes.{IsIndexOf-map_insert}
use Rattle.examples.proofs.peers.Peers.add.Goals as goal

pub invariant_of-self-in-Ok : goal.invariant_of-self-in-Ok
invariant_of-self-in-Ok c = record {
  index = IsIndexOf-map_insert bytes_decides c.args.self.now.index c.insert-in-Ok.ensures.step (search rules) (search rules) (c.in-Ok.ensures.holds refl) c.in-Ok.ensures.kept;
}
