-- The tasks of a scheduler: for each key the number of steps that its task has left.
use Rattle.std.specs.Prelude.{◌<◌, ℕ, List, nat_eq, unwrap_or}
use Rattle.std.specs.List.{sum_by}
use Rattle.ix_maps.specs.SlotTableState.{SlotTableState, value_at}
use Rattle.ix_slottable.specs.KeyLists.{ListsEach}

-- each task with steps left is in this list
abbrev pub AreReady : SlotTableState ℕ → List ℕ → Type 0
AreReady tasks ready = ListsEach nat_eq (λ left. 0 < left) (value_at tasks) ready

-- the number of steps that all tasks have left
abbrev pub steps_left : SlotTableState ℕ → ℕ
steps_left tasks = sum_by (λ place. unwrap_or place 0) tasks.values
