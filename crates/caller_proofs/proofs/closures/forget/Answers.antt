use Rattle.std.proofs.Common.{◌==◌, not, rules}
use Rattle.ix_tables.proofs.Filtered.{filter_leaves_out}
use Rattle.caller_proofs.proofs.closures.forget.Goals as goal

pub returns : goal.returns
returns c = filter_leaves_out (λ x. not (x == c.args.key)) _ _ c.static_without.ensures c.args.key (search rules)
