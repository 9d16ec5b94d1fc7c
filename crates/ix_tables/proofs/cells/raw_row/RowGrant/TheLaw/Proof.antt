-- A `&` to a grant owns nothing. Assumes `Logic`.
use denote.RattleType.{RattleType}
use denote.RawPtr.{RawPtr}
use denote.Param.Laws.{Laws}
use denote.Param.Shared.{copy_shared}
use denote.SharingLaws.{nothing_shr_laws}
use denote.Struct.Laws.{field_copy}
use denote.Struct.Lending.{of_Lends, Lends-nothing}
use Rattle.std.specs.declared.alloc.Allocator.{Ghosts}
use Rattle.std.specs.contracts.marker.PhantomData as marker
use Rattle.ix_tables.specs.contracts.cells.raw_row.RowGrant as grant
use Rattle.ix_tables.proofs.cells.raw_row.RowGrant.TheLaw.Statement.{statement}

pub shares : (T A : RattleType) (g : Ghosts A.Denot) (L : Laws T) (LA : Laws A) → statement T A g L LA
shares T A g L LA =
    of_Lends (grant.struct T A g) (grant.the_codes T.Denot A.Denot T.coded A.coded (marker.the_row RawPtr).coded) (grant.the_heap T A g) (grant.the_lent T A g)
    (λ _ _. nothing_shr_laws) (copy_shared (marker.the_field RawPtr) (field_copy (marker.the_type RawPtr) tt), tt)
    (λ M 𝓤 𝓛 right _. Lends-nothing 𝓛 (grant.the_heap T A g right) (grant.the_row T A g).lives)
