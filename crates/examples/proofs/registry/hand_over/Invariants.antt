use Rattle.std.specs.Prelude.{◌≡◌, IsSome, fold, take}
use Rattle.ix_maps.specs.Generations.{slot_map_value, IsDead}
use Rattle.ix_maps.specs.SlotMapSteps.{slot_map_insert, slot_map_remove}
use Rattle.examples.proofs.registry.hand_over.Given as goal

-- the handle is dead, if it was held; and the first services are registered after it was removed
abbrev pub invariant-loop-service : goal.invariant-loop-service
invariant-loop-service l =
    (IsSome (slot_map_value l.fn.registry l.fn.handle) → IsDead l.registry l.fn.handle)
    × (l.registry ≡ fold slot_map_insert (slot_map_remove l.fn.registry l.fn.handle) (take l.service-index l.services))
