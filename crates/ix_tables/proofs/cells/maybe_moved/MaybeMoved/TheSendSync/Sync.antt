use denote.RattleType.{RattleType}
use denote.Param.Send.{IsSync}
use Rattle.ix_tables.proofs.MovedItems.{moved_sync}
use Rattle.ix_tables.specs.contracts.cells.maybe_moved.MaybeMoved.{the_row}

pub sync : (T : RattleType) → IsSync T → IsSync (the_row T)
sync = moved_sync
