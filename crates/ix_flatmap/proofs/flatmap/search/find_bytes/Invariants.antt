use Rattle.std.proofs.Common.{◌≡◌, drop}
use Rattle.std.specs.List.{find}
use Rattle.ix_slottable.specs.SlotTableState.{entries_from}
use Rattle.ix_flatmap.specs.MapState.{has_bytes, map_entry}
use Rattle.ix_flatmap.proofs.flatmap.search.find_bytes.Given as goal

-- what is found from this place on is what is found in all
abbrev pub invariant-loop-place : goal.invariant-loop-place
invariant-loop-place g l =
    find (λ entry. has_bytes g.K.AsSlice.items entry.1.key l.bytes) (entries_from l.place (drop l.place l.pairs.values)) ≡ map_entry (has_bytes g.K.AsSlice.items) l.pairs l.bytes
