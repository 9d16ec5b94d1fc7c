use denote.RattleType.{RattleType}
use denote.Param.Send.{IsSync}
use Rattle.ix_tables.proofs.RawSending.{owner_sync}
use Rattle.ix_tables.specs.contracts.cells.raw_row.RowOwner.{the_row}

pub sync : (T : RattleType) → IsSync T → IsSync (the_row T)
sync = owner_sync
