use Rattle.std.proofs.Common.{option_copied}
use Rattle.ix_run.specs.inner.NameTables.{constant_rows}
use Rattle.ix_run.specs.declared.run.grammar.readers.vector.TheConstants.{NAMES, OTHER_NAMES}
use Rattle.ix_run.proofs.NameTables.{named_before}
use Rattle.ix_run.proofs.run.grammar.readers.vector.split_form.Goals as goal

pub returns-in-Some : goal.returns-in-Some
returns-in-Some c = named_before (constant_rows NAMES) (constant_rows OTHER_NAMES) c.args.line.now c.in-Some.form.0 (option_copied c.in-Some.form.1) c.in-Some.ensures
