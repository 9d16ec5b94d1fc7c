use Rattle.std.proofs.Common.{◌≡◌, bytes_eq, drop}
use Rattle.std.specs.Map.{lookup}
use Rattle.ix_run.specs.inner.NameTables.{rows, first_word, HasWords}
use Rattle.ix_run.proofs.run.grammar.name_table.split_name.Given as goal

abbrev pub invariant-loop-row : goal.invariant-loop-row
invariant-loop-row g l = record {
  words : HasWords (rows (drop l.row-index l.table));
  value : lookup (bytes_eq (first_word l.line)) (rows l.fn.table) ≡ lookup (bytes_eq (first_word l.line)) (rows (drop l.row-index l.table));
}
