use denote.RattleType.{RattleType}
use denote.Param.Send.{IsSend}
use Rattle.ix_tables.proofs.MovedItems.{moved_send}
use Rattle.ix_tables.specs.contracts.cells.maybe_moved.MaybeMoved.{the_row}

pub send : (T : RattleType) → IsSend T → IsSend (the_row T)
send = moved_send
