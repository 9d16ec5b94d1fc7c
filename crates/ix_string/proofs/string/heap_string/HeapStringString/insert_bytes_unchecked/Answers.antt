use Rattle.ix_string.proofs.Texts.{IsText-insert_slice}
use Rattle.ix_string.proofs.string.heap_string.HeapStringString.insert_bytes_unchecked.Goals as goal

pub invariant_of-self : goal.invariant_of-self
invariant_of-self g c = rw c.insert_into.ensures (IsText-insert_slice c.self.inside.bytes.items c.args.idx c.args.bytes.now c.self.invariant c.requires.text)
