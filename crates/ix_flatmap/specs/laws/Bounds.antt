-- A bound of pairs is also a bound of other pairs in the same slots.
use Rattle.std.specs.Prelude.{◌≡◌, ℕ, ◌≤◌, Option, Some, None, refl}
use Rattle.std.proofs.Common.{sym, subst}
use Rattle.ix_slottable.specs.SlotTableState.{SlotTableState, value_at}
use Rattle.ix_slottable.specs.SlotTableCopies.{IsCloneAt, SlotTableIsClone}
use Rattle.ix_flatmap.specs.MapState.{IsBound}

module _ {T : Type 0} (is_clone : T → T → Type 0) where
  none_at : (value copy : Option T) → IsCloneAt is_clone value copy → value ≡ None → copy ≡ None
  none_at None None is none = refl
  none_at None (Some z) is none = absurd is
  none_at (Some x) None is none = refl
  none_at (Some x) (Some z) is none = absurd (cc)

  pub IsBound-clone : (s copy : SlotTableState T) (bound : ℕ) → SlotTableIsClone is_clone s copy → IsBound s bound → IsBound copy bound
  IsBound-clone s copy bound is bounds = record {
    within = subst (λ (n : ℕ). bound ≤ n) (sym is.capacity) bounds.within;
    beyond = λ place past. none_at (value_at s place) (value_at copy place) (is.values place) (bounds.beyond place past);
  }
