-- The calls of a closure that a flat map calls with a `&` to each key and a `&mut` to its value.
use Rattle.std.specs.Prelude.{◌≡◌}
use Rattle.std.specs.Borrow.{Bor, MutBor}

module _ {F K V : Type 0} where
  -- a call with a `&` to this key
  abbrev pub CallAtKey : {R : Type 0} → (F → Bor K → MutBor V → R → MutBor V → F → Type 0) → F → K → MutBor V → R → MutBor V → F → Type 0
  CallAtKey step f key shown r after next = (lent : Bor K) × (lent.now ≡ key) × step f lent shown r after next

  -- it may be called with any `&` to this key
  abbrev pub TakesKey : (F → Bor K → MutBor V → Type 0) → F → K → MutBor V → Type 0
  TakesKey pre f key shown = (lent : Bor K) → lent.now ≡ key → pre f lent shown
