-- A `&` to the owner of a row reaches each item. Assumes `Logic`.
use mathlib.Core.List.{[], ◌++◌}
use base.Fml.{Incl-trans}
use contract.BorrowLft.{meet_⊑_left}
use denote.RattleType.{RattleType}
use denote.RawPtr.{RawPtr}
use denote.Param.Laws.{Laws}
use denote.Param.Shared.{copy_shared}
use denote.Struct.Laws.{field_copy}
use denote.Struct.Lending.{of_Lends}
use Rattle.std.specs.contracts.marker.PhantomData as marker
use Rattle.ix_tables.specs.contracts.cells.raw_row.RowOwner as owner
use Rattle.ix_tables.proofs.RawSharing.{row_copied, row_lent}
use Rattle.ix_tables.proofs.cells.raw_row.RowOwner.TheLaw.Statement.{statement}

pub shares : (T : RattleType) (L : Laws T) → statement T L
shares T L =
    let outlives = Incl-trans (meet_⊑_left (T.lives ++ []) _) (meet_⊑_left T.lives []) in
    of_Lends (owner.struct T) (owner.the_codes T.Denot T.coded (marker.the_row RawPtr).coded) (owner.the_heap T) (owner.the_lent T)
    (λ row _. row_copied T L.shr_laws row.start row.places) (copy_shared (marker.the_field RawPtr) (field_copy (marker.the_type RawPtr) tt), tt)
    (λ M 𝓤 𝓛 row _. row_lent 𝓛 (owner.the_row T).lives T L outlives row.start row.places)
