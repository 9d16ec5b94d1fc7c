use Rattle.std.proofs.Common.{rules, sym}
use Rattle.std.specs.Cmp.Lexicographic.{bytes_decides}
use Rattle.ix_slotmap.proofs.SlotMapIndexes.{IsIndexOf-map_remove}
use Rattle.examples.proofs.peers.Peers.remove.Goals as goal

pub invariant_of-self-2 : goal.invariant_of-self-2
invariant_of-self-2 c = record {
  index = IsIndexOf-map_remove bytes_decides c.args.self.now.index c.remove-2.ensures.step c.args.name.now (sym c.in_ok-handle.ensures.value) c.in_ok-handle.ensures.gone c.in_ok-handle.ensures.kept;
}

pub returns : goal.returns
returns c = let found = c.args.self.now.index.found c.args.name.now c.in_ok-handle.handle (sym c.in_ok-handle.ensures.value) in search (rules, found)
