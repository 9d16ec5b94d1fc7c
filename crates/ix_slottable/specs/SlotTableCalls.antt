-- The calls of a closure that a slot table or a slot map calls with each held key and a `&mut` to its value.
use Rattle.std.specs.Prelude.{◌≡◌, Bool, List, ◌∷◌, ◌++◌, if◌then◌else◌, Option, Some, None}
use Rattle.std.specs.Borrow.{MutBor}
use Rattle.std.specs.List.{FoldsTo}

module _ {F K T R : Type 0} (step : F → K → MutBor T → R → MutBor T → F → Type 0) where
  -- a call of f with the key and a `&mut` to the value may return r, and leave another value there, and f as `next`
  pub record CalledOn (f : F) (key : K) (value : T) (r : R) (left : T) (next : F) : Type 0 where
    pub shown : MutBor T
    pub shows : shown.now ≡ value
    pub after : MutBor T
    pub called : step f key shown r after next
    pub leaves : after.now ≡ left

  -- a call of f with the item, whatever it returns and leaves there, may leave f as `next`
  abbrev pub SomeCallOn : F → K × T → F → Type 0
  SomeCallOn f item next = (r : R) × (left : T) × CalledOn f item.0 item.1 r left next

  -- f may be called with each item, as the calls with the items before have left it
  pub record IsCallableOnEach (pre : F → K → MutBor T → Type 0) (f : F) (items : List (K × T)) : Type 0 where
    pub at : (before after : List (K × T)) (key : K) (shown : MutBor T) (later : F) → items ≡ before ++ (key, shown.now) ∷ after → FoldsTo SomeCallOn f before later → pre later key shown

module _ {F K T : Type 0} where
  -- each call of f returns the test's result for the key and its value, and changes neither the value nor f
  abbrev pub ComputesTest : (F → K → MutBor T → Bool → MutBor T → F → Type 0) → F → (K → T → Bool) → Type 0
  ComputesTest step f test =
      (key : K) (value : T) (passes : Bool) (left : T) (next : F) → CalledOn step f key value passes left next → (passes ≡ test key value) × (left ≡ value) × (next ≡ f)

  -- each call of f leaves the result of `change` for the key and its value, and does not change f
  abbrev pub ComputesValue : (F → K → MutBor T → Unit {0} → MutBor T → F → Type 0) → F → (K → T → T) → Type 0
  ComputesValue step f change =
      (key : K) (value left : T) (next : F) → CalledOn step f key value tt left next → (left ≡ change key value) × (next ≡ f)

-- the value, if there is one and it passes the test
abbrev pub option_filter : {T : Type 0} → (T → Bool) → Option T → Option T
option_filter test None = None
option_filter test (Some value) = if test value then Some value else None

module _ {F K T S : Type 0} (set : S → K → T → S) where
  -- f was called with the item, and its key has the value that the call left
  abbrev pub ChangesItem : (F → K → MutBor T → Unit {0} → MutBor T → F → Type 0) → F × S → K × T → F × S → Type 0
  ChangesItem step p item q = (left : T) × CalledOn step p.0 item.0 item.1 tt left q.0 × (q.1 ≡ set p.1 item.0 left)

  -- f was called with the item; its key has the value that the call left if the call returned `true`, and else is removed
  abbrev pub RetainsItem : (S → K → S) → (F → K → MutBor T → Bool → MutBor T → F → Type 0) → F × S → K × T → F × S → Type 0
  RetainsItem remove step p item q =
      (keep : Bool) × (left : T) × CalledOn step p.0 item.0 item.1 keep left q.0
      × (q.1 ≡ (if keep then set p.1 item.0 left else remove p.1 item.0))
