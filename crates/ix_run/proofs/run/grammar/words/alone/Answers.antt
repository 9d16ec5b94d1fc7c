use Rattle.ix_run.proofs.Words.{alone_not_last}
use Rattle.ix_run.proofs.run.grammar.words.alone.Goals as goal

pub returns-in-Some : goal.returns-in-Some
returns-in-Some g c = rw c.in-Some.is (alone_not_last c.args.command c.in-Some.field-0.now)
