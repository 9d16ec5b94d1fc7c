use Rattle.std.proofs.Common.{None, ap}
use Rattle.ix_tables.proofs.Repetitions.{made_alike}
use Rattle.ix_tables.proofs.cells.filled_inline_table.empty_places.Goals as goal

pub returns : goal.returns
returns g c =
    made_alike _ _ None (λ i y q called. (ap (λ lent. record { 0 = lent }) called.met.0, called.met.1))
    c.from_fn.result g.row.CAP c.from_fn.ensures.items
