use denote.RattleType.{RattleType}
use denote.Param.Send.{IsSend}
use Rattle.ix_tables.proofs.RawSending.{owner_send}
use Rattle.ix_tables.specs.contracts.cells.raw_row.RowOwner.{the_row}

pub send : (T : RattleType) → IsSend T → IsSend (the_row T)
send = owner_send
