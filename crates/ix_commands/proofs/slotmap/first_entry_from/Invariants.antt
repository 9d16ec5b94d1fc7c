use Rattle.std.proofs.Common.{◌≡◌, nat_le}
use Rattle.std.specs.List.{find}
use Rattle.ix_commands.specs.SlotMapRun.{slot_map_from}
use Rattle.ix_commands.proofs.slotmap.first_entry_from.Given as goal

-- the first of the entries that are still to come is the first of all
abbrev pub invariant-loop-key : goal.invariant-loop-key
invariant-loop-key g l = find (λ entry. nat_le l.start entry.0.index) l.key-iterator ≡ slot_map_from l.map l.start
