-- Clones of slot tables.
use Rattle.std.proofs.Common.{◌≡◌, ℕ, suc, ◌+◌, ◌<◌, ◌≤◌, ◌↔◌, inl, inr, List, [], ◌∷◌, length, Bool, true, false, Option, Some, None, IsSome, refl, sym, ap, ap₂, ◌∙◌, subst, arith}
use Rattle.std.specs.Prelude.{replicate, if◌then◌else◌, is_some, nat_lt, count_by}
use Rattle.std.proofs.lemmas.Bool.{cases_eq, cases_lt}
use Rattle.std.proofs.lemmas.List.{length-set, length-replicate}
use Rattle.std.proofs.lemmas.List.Sums.{sum_by-cons}
use Rattle.ix_tables.specs.Places.{place_at, IsHeldAt}
use Rattle.ix_tables.specs.Cloning.{AreEqualClones}
use Rattle.ix_slottable.specs.declared.slottable.link.Link.{Link}
use Rattle.ix_slottable.specs.SlotTableState.{SlotTableState, value_at, IsHeld, IsFree}
use Rattle.ix_slottable.specs.SlotTableSteps.{slot_table_fill, SlotTableInsertAt}
use Rattle.ix_slottable.specs.SlotTableCopies.{IsCloneAt, SlotTableIsClone}
use Rattle.ix_slottable.specs.inner.FreeList.{Represents}
use Rattle.ix_tables.proofs.Places.{none_of_not_some}
use Rattle.ix_slottable.proofs.SlotTables.{place_at_past}
use Rattle.ix_tables.proofs.VacantTables.{place_at-replicate}

-- two rows with the same content at each place
pub places_same : {X : Type 0} (xs ys : List (Option X)) → length xs ≡ length ys → ((i : ℕ) → i < length ys → place_at xs i ≡ place_at ys i) → xs ≡ ys
places_same [] [] len same = refl
places_same [] (y ∷ ys) len same = absurd (omega arith)
places_same (x ∷ xs) [] len same = absurd (omega arith)
places_same (x ∷ xs) (y ∷ ys) len same = ap₂ ◌∷◌ (same 0 (omega arith)) (places_same xs ys (omega arith) (λ i below. same (suc i) (omega arith)))

module _ {T : Type 0} where
  -- as many places pass a test if the same ones do
  pub count_by-same : (test : Option T → Bool) (xs ys : List (Option T)) → length xs ≡ length ys → ((i : ℕ) → i < length ys → test (place_at xs i) ≡ test (place_at ys i)) → count_by test xs ≡ count_by test ys
  count_by-same test [] [] len same = refl
  count_by-same test [] (y ∷ ys) len same = absurd (omega arith)
  count_by-same test (x ∷ xs) [] len same = absurd (omega arith)
  count_by-same test (x ∷ xs) (y ∷ ys) len same =
      let left = sum_by-cons (λ place. if test place then 1 else 0) x xs in
      let right = sum_by-cons (λ place. if test place then 1 else 0) y ys in
      let zero_below : 0 < length (y ∷ ys) = omega arith in
      let here : (if test x then 1 else 0) ≡ (if test y then 1 else 0) = ap (λ b. if b then 1 else 0) (same 0 zero_below) in
      let rest = count_by-same test xs ys (omega arith) (λ i below. same (suc i) (omega arith)) in
      left ∙ ap₂ (λ m n. m + n) here rest ∙ sym right

  is_some-same : (x y : Option T) → IsSome x ↔ IsSome y → is_some x ≡ is_some y
  is_some-same None None same = refl
  is_some-same None (Some y) same = same.1 refl
  is_some-same (Some x) None same = sym (same.0 refl)
  is_some-same (Some x) (Some y) same = refl

  -- other values at the same keys are represented by the same links
  pub Represents-same_keys : (s : SlotTableState T) (values : List (Option T)) (links : List (Option Link)) (first len : ℕ) → Represents s links first len → length values ≡ length s.values
      → ((key : ℕ) → IsHeldAt values key ↔ IsHeld s key) → Represents (record { values = values; free = s.free }) links first len
  Represents-same_keys s values links first len r long same =
      let to : (key : ℕ) → IsFree s key → IsFree (record { values = values; free = s.free }) key =
      λ key free. (let below = free.0 in omega (arith, below, long), none_of_not_some _ (λ held. absurd (let no = subst IsSome free.1 ((same key).0 held) in cc))) in
      let from : (key : ℕ) → IsFree (record { values = values; free = s.free }) key → IsFree s key =
      λ key free. (let below = free.0 in omega (arith, below, long), none_of_not_some _ (λ held. absurd (let no = subst IsSome free.1 ((same key).1 held) in cc))) in
      let count = count_by-same is_some values s.values long (λ key below. is_some-same (place_at values key) (value_at s key) (same key)) in
      record {
        lengths = r.lengths ∙ sym long;
        below = let below = r.below in omega (arith, below, long);
        chain = r.chain;
        head = r.head;
        others = r.others;
        formed = record {
          listed_is_free = λ key listed. to key (r.formed.listed_is_free key listed);
          free_is_listed = λ key free. r.formed.free_is_listed key (from key free);
        };
        held = r.held ∙ sym count;
        counted = r.counted ∙ sym long;
      }

  module _ (is_clone : T → T → Type 0) where
    pub held_from_clone : (value copy : Option T) → IsCloneAt is_clone value copy → IsSome copy ↔ IsSome value
    held_from_clone None None is = (λ held. held, λ held. held)
    held_from_clone None (Some y) is = absurd is
    held_from_clone (Some x) None is = absurd is
    held_from_clone (Some x) (Some y) is = (λ held. refl, λ held. refl)

    -- no place holds a value, or a clone of it
    IsCloneAt-none : (value copy : Option T) → value ≡ None → copy ≡ None → IsCloneAt is_clone value copy
    IsCloneAt-none value copy none same = subst (λ v. IsCloneAt is_clone v copy) (sym none) (subst (IsCloneAt is_clone None) (sym same) tt)

    IsCloneAt-some : (value copy : Option T) (x y : T) → value ≡ Some x → copy ≡ Some y → is_clone x y → IsCloneAt is_clone value copy
    IsCloneAt-some value copy x y some same is = subst (λ v. IsCloneAt is_clone v copy) (sym some) (subst (IsCloneAt is_clone (Some x)) (sym same) is)

    equal_at : AreEqualClones is_clone → (value copy : Option T) → IsCloneAt is_clone value copy → copy ≡ value
    equal_at equal None None is = refl
    equal_at equal None (Some y) is = absurd is
    equal_at equal (Some x) None is = absurd is
    equal_at equal (Some x) (Some y) is = ap Some (equal x y is)

    pub SlotTableIsClone-equal : (s copy : SlotTableState T) → AreEqualClones is_clone → SlotTableIsClone is_clone s copy → copy ≡ s
    SlotTableIsClone-equal s copy equal is =
        ap₂ (λ (values : List (Option T)) (free : List ℕ). let t : SlotTableState T = record { values = values; free = free } in t)
        (places_same copy.values s.values is.capacity (λ key below. equal_at equal (value_at s key) (value_at copy key) (is.values key))) is.free

    -- clones of the values at the keys before this one
    pub record CopiesBelow (s : SlotTableState T) (number : ℕ) (now : SlotTableState T) : Type 0 where
      pub capacity : length now.values ≡ length s.values
      pub values : (key : ℕ) → key < number → IsCloneAt is_clone (value_at s key) (value_at now key)
      pub rest : (key : ℕ) → number ≤ key → value_at now key ≡ None

    pub CopiesBelow-none : (s now : SlotTableState T) → now.values ≡ replicate (length s.values) None → CopiesBelow s 0 now
    CopiesBelow-none s now none = record {
      capacity = ap length none ∙ length-replicate (length s.values) None;
      values = λ key below. absurd (omega arith);
      rest = λ key past. ap (λ values. place_at values key) none ∙ place_at-replicate (length s.values) key;
    }

    pub CopiesBelow-free : (s now : SlotTableState T) (number : ℕ) → CopiesBelow s number now → value_at s number ≡ None → CopiesBelow s (number + 1) now
    CopiesBelow-free s now number copies none = record {
      capacity = copies.capacity;
      values = λ key below. elim (cases_eq key number) [
        | inl here ↦ IsCloneAt-none (value_at s key) (value_at now key) (ap (value_at s) here ∙ none) (copies.rest key (omega arith))
        | inr there ↦ copies.values key (omega arith)
      ];
      rest = λ key past. copies.rest key (omega arith);
    }

    pub CopiesBelow-held : (s now new : SlotTableState T) (number : ℕ) (x y : T) → CopiesBelow s number now → value_at s number ≡ Some x → is_clone x y → SlotTableInsertAt now number y new true → CopiesBelow s (number + 1) new
    CopiesBelow-held s now new number x y copies some is step = record {
      capacity = ap (λ (t : SlotTableState T). length t.values) step.map ∙ long (nat_lt number (length now.values)) ∙ copies.capacity;
      values = λ key below. elim (cases_eq key number) [
        | inl here ↦ IsCloneAt-some (value_at s key) (value_at new key) x y (ap (value_at s) here ∙ some) (ap (value_at new) here ∙ step.holds refl) is
        | inr there ↦ subst (IsCloneAt is_clone (value_at s key)) (sym (step.kept key there)) (copies.values key (omega arith))
      ];
      rest = λ key past. step.kept key (λ e. omega arith) ∙ copies.rest key (omega arith);
    }
      where
        long : (b : Bool) → length (if b then slot_table_fill now number y else now).values ≡ length now.values
        long true = length-set now.values number (Some y)
        long false = refl

    pub CopiesBelow-all : (s now : SlotTableState T) (number : ℕ) → CopiesBelow s number now → length s.values ≤ number → (key : ℕ) → IsCloneAt is_clone (value_at s key) (value_at now key)
    CopiesBelow-all s now number copies past key = elim (cases_lt key number) [
      | inl below ↦ copies.values key below
      | inr beyond ↦ IsCloneAt-none (value_at s key) (value_at now key) (place_at_past s.values key (omega arith)) (copies.rest key beyond)
    ]
