use Rattle.std.specs.Prelude.{◌≡◌, ◌+◌, ℕ, length}
use Rattle.ix_maps.specs.SlotTableState.{IsHeld}
use Rattle.examples.specs.Tasks.{AreReady, steps_left}
use Rattle.examples.proofs.scheduler.run_ready.Given as goal

-- each task with steps left is ready, and each that was there is there
abbrev pub invariant-loop-key : goal.invariant-loop-key
invariant-loop-key l =
    AreReady l.tasks l.ready.items
    × ((key : ℕ) → IsHeld l.fn.tasks key → IsHeld l.tasks key)
    × (l.tasks.free ≡ l.fn.tasks.free)

-- each turn makes a step, or leaves one ready task less
abbrev pub decreases-loop-key : goal.decreases-loop-key
decreases-loop-key l = steps_left l.tasks + length l.ready.items
