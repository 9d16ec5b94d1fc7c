use Rattle.std.proofs.Common.{rules, sym}
use Rattle.examples.proofs.peers.Peers.find.Goals as goal

pub returns : goal.returns
returns c = let found = c.args.self.now.index.found c.args.name.now c.in_ok-handle.handle.now (sym c.in_ok-handle.ensures.value) in search (rules, found)
