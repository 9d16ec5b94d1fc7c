-- The parts of a row go to another thread where its items and its allocator may.
use Rattle.std.specs.Prelude.{ℕ, ◌+◌, List, [], ◌∷◌, Option, Some, None}
use Rattle.std.specs.Mem.{type_size}
use Rattle.std.specs.declared.alloc.Allocator.{Ghosts}
use base.Fraction.{full_share}
use base.Shift.{Keyless}
use denote.RattleType.{RattleType}
use denote.RawPtr.{Ptr, block_ptr, null_ptr}
use denote.Struct.Struct.{exits_of}
use denote.Struct.Owning.{shape, fields, to}
use denote.Param.Send.{IsSend, IsSync, Common, AllSend, part_keyless, owning_send, struct_send, struct_sync, sendable}
use Rattle.std_alloc.proofs.SendSync.{FreesAnywhere, quiet}
use Rattle.ix_tables.specs.inner.RawMemory.{places_own, places_share, row_owns, row_shares}
use Rattle.ix_tables.specs.contracts.cells.raw_row.RowOwner as owner
use Rattle.ix_tables.specs.contracts.cells.raw_row.RowGrant as grant

module _ (T : RattleType) where
  module _ (send : IsSend T) where
    places_keyless : (b o : ℕ) (places : List (Option T.Denot)) → Keyless (places_own T b o places)
    places_keyless b o [] = tt
    places_keyless b o (None ∷ places) = (tt, places_keyless b (o + type_size T) places)
    places_keyless b o (Some item ∷ places) = (part_keyless T send full_share item b o, places_keyless b (o + type_size T) places)

    row_keyless : (p : Ptr) (places : List (Option T.Denot)) → Keyless (row_owns T p places)
    row_keyless null_ptr places = tt
    row_keyless (block_ptr b o) places = (tt, places_keyless b o places)

    pub owner_send : IsSend (owner.the_row T)
    owner_send =
        let type = owner.the_type T in let parts : AllSend (fields type) = (search sendable, tt) in
        owning_send type parts (λ row. row_keyless row.start row.places)
        (λ k. quiet (to type) (exits_of k (fields type)) ((struct_send (shape type) parts).leaving k))

  module _ (sync : IsSync T) where
    places_common : (b o : ℕ) (places : List (Option T.Denot)) → Common (places_share T b o places)
    places_common b o [] κ = tt
    places_common b o (None ∷ places) κ = (tt, places_common b (o + type_size T) places κ)
    places_common b o (Some item ∷ places) κ = (sync.shared item b o κ, places_common b (o + type_size T) places κ)

    row_common : (p : Ptr) (places : List (Option T.Denot)) → Common (row_shares T p places)
    row_common null_ptr places κ = tt
    row_common (block_ptr b o) places κ = (tt, places_common b o places κ)

    pub owner_sync : IsSync (owner.the_row T)
    owner_sync =
        let type = owner.the_type T in
        record { shared = λ row b o κ. ((struct_sync (shape type) (search sendable, tt)).shared (to type row) b o κ, row_common row.start row.places κ) }

  module _ (A : RattleType) (g : Ghosts A.Denot) where
    pub grant_send : FreesAnywhere A.Denot g → IsSend (grant.the_row T A g)
    grant_send frees =
        let type = grant.the_type T A g in let parts : AllSend (fields type) = (search sendable, tt) in
        owning_send type parts (λ right. frees.frees right.alloc _ right.start)
        (λ k. quiet (to type) (exits_of k (fields type)) ((struct_send (shape type) parts).leaving k))

    pub grant_sync : IsSync (grant.the_row T A g)
    grant_sync =
        let type = grant.the_type T A g in
        record { shared = λ right b o κ. ((struct_sync (shape type) (search sendable, tt)).shared (to type right) b o κ, tt) }
