use Rattle.ix_string.proofs.Texts.{IsText-not}
use Rattle.ix_string.proofs.string.heap_string.HeapString.try_from_bytes.Goals as goal

pub returns-then-not-is_text : goal.returns-then-not-is_text
returns-then-not-is_text g c = IsText-not c.args.bytes.now (cc)
