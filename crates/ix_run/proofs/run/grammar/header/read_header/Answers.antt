use Rattle.ix_run.proofs.Headers.{header_of_text}
use Rattle.ix_run.proofs.run.grammar.header.read_header.Goals as goal

pub returns-clause-text : goal.returns-clause-text
returns-clause-text c = rw c.header_in.ensures (header_of_text c.args.line.now)
