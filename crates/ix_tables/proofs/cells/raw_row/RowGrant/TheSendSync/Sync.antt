use denote.RattleType.{RattleType}
use denote.Param.Send.{IsSync}
use Rattle.std.specs.declared.alloc.Allocator.{Ghosts}
use Rattle.ix_tables.proofs.RawSending.{grant_sync}
use Rattle.ix_tables.specs.contracts.cells.raw_row.RowGrant.{the_row}

pub sync : (T A : RattleType) (g : Ghosts A.Denot) → IsSync (the_row T A g)
sync = grant_sync
