use denote.RattleType.{RattleType}
use denote.Param.Send.{IsSend, Frees}
use Rattle.std.specs.declared.alloc.Allocator.{Ghosts}
use Rattle.ix_tables.proofs.RawSending.{grant_send}
use Rattle.ix_tables.specs.contracts.cells.raw_row.RowGrant.{the_row}

pub send : (T A : RattleType) (g : Ghosts A.Denot) → IsSend A → Frees g g.dealloc_token → IsSend (the_row T A g)
send T A g _ = grant_send T A g
