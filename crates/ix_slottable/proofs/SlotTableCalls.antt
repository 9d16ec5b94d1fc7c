-- The calls that a slot table makes of a closure, one for each held key.
use Rattle.std.proofs.Common.{◌≡◌, ◌≢◌, ℕ, zero, suc, ◌+◌, ◌<◌, ◌≤◌, inl, inr, List, [], ◌∷◌, ◌++◌, length, take, drop, set, ◌↔◌, Bool, true, false, Option, Some, None, refl, sym, ap, ◌∙◌, subst, arith}
use Rattle.std.specs.Borrow.{MutBor}
use Rattle.std.specs.Prelude.{IsSome, is_some, if◌then◌else◌}
use Rattle.std.specs.List.{FoldsTo, fold, range_with_len}
use Rattle.std.proofs.lemmas.Bool.{cases_eq}
use Rattle.std.proofs.lemmas.Fn.{FoldsTo-push}
use Rattle.std.proofs.lemmas.List.{take_more, take_all, take-append-drop, drop_more, length-take-le}
use Rattle.std.proofs.lemmas.List.{append-nil, get_or-set_same, get_or-set_other, length-set, set-set}
use Rattle.ix_tables.specs.Places.{place_at}
use Rattle.ix_tables.proofs.Places.{place_at_within}
use Rattle.ix_slottable.specs.SlotTableState.{SlotTableState, value_at, IsHeld, entries_from, entries}
use Rattle.ix_slottable.specs.SlotTableSteps.{slot_table_set, slot_table_vacate, slot_table_remove}
use Rattle.ix_slottable.specs.SlotTableCalls.{CalledOn, SomeCallOn, IsCallableOnEach}

-- of pairs, what the first parts go through
pub FoldsTo-first : {F S A : Type 0} (R : F × S → A → F × S → Type 0) (Q : F → A → F → Type 0) → ((p q : F × S) (x : A) → R p x q → Q p.0 x q.0)
    → (items : List A) (p q : F × S) → FoldsTo R p items q → FoldsTo Q p.0 items q.0
FoldsTo-first R Q each [] p q folds = ap (λ both. both.0) folds
FoldsTo-first R Q each (x ∷ items) p q folds = (folds.0.0, each p folds.0 x folds.1, FoldsTo-first R Q each items folds.0 q folds.2)

-- one key more in a row of keys
fold-range_with_len_suc : {X : Type 0} (f : X → ℕ → X) (x : X) (start n : ℕ) → fold f x (range_with_len start (suc n)) ≡ f (fold f x (range_with_len start n)) (start + n)
fold-range_with_len_suc f x start zero = let same : start ≡ start + 0 = omega arith in ap (f x) same
fold-range_with_len_suc f x start (suc n) =
    let next : start + 1 + n ≡ start + suc n = omega arith in
    fold-range_with_len_suc f (f x start) (start + 1) n ∙ ap (f (fold f (f x start) (range_with_len (start + 1) n))) next

pub fold-range_with_len : {X : Type 0} (f : X → ℕ → X) (x : X) (n : ℕ) → fold f x (range_with_len 0 (n + 1)) ≡ f (fold f x (range_with_len 0 n)) n
fold-range_with_len f x n =
    let next : n + 1 ≡ suc n = omega arith in
    let here : 0 + n ≡ n = omega arith in
    ap (λ k. fold f x (range_with_len 0 k)) next ∙ fold-range_with_len_suc f x 0 n ∙ ap (f (fold f x (range_with_len 0 n))) here

module _ {F K T R : Type 0} (step : F → K → MutBor T → R → MutBor T → F → Type 0) where
  pub CalledOn-from_step : (f : F) (key : K) (shown : MutBor T) (r : R) (after : MutBor T) (next : F) → step f key shown r after next → CalledOn step f key shown.now r after.now next
  CalledOn-from_step f key shown r after next called =
      record { shown = shown; shows = refl; after = after; called = called; leaves = refl }

module _ {T : Type 0} where
  pub length-slot_table_remove : (s : SlotTableState T) (key : ℕ) → length (slot_table_remove s key).values ≡ length s.values
  length-slot_table_remove s key = go (is_some (value_at s key))
    where
      go : (b : Bool) → length (if b then slot_table_vacate s key else s).values ≡ length s.values
      go true = length-set s.values key None
      go false = refl

  pub value_at-slot_table_remove_other : (s : SlotTableState T) (key other : ℕ) → other ≢ key → value_at (slot_table_remove s key) other ≡ value_at s other
  value_at-slot_table_remove_other s key other apart = go (is_some (value_at s key))
    where
      go : (b : Bool) → value_at (if b then slot_table_vacate s key else s) other ≡ value_at s other
      go true = get_or-set_other s.values key other None None apart
      go false = refl

  -- a held key that got another value is held, and so is every other key that was
  pub IsHeld-slot_table_set : (s : SlotTableState T) (key : ℕ) (value left : T) → value_at s key ≡ Some value → (other : ℕ) → IsHeld (slot_table_set s key left) other ↔ IsHeld s other
  IsHeld-slot_table_set s key value left at other = elim (cases_eq other key) [
    | inl here ↦
        let below = place_at_within s.values key value at in
        let now : value_at (slot_table_set s key left) other ≡ Some left = ap (place_at (set s.values key (Some left))) here ∙ get_or-set_same s.values key (Some left) None below in
        let was : value_at s other ≡ Some value = ap (place_at s.values) here ∙ at in
        (λ held. subst IsSome (sym was) refl, λ held. subst IsSome (sym now) refl)
    | inr there ↦
        let same = get_or-set_other s.values key other (Some left) None there in
        (λ held. subst IsSome same held, λ held. subst IsSome (sym same) held)
  ]

  -- a value that is written first is removed all the same
  pub slot_table_remove-slot_table_set : (s : SlotTableState T) (key : ℕ) (value left : T) → value_at s key ≡ Some value → slot_table_remove (slot_table_set s key left) key ≡ slot_table_remove s key
  slot_table_remove-slot_table_set s key value left at =
      let below = place_at_within s.values key value at in
      let written : value_at (slot_table_set s key left) key ≡ Some left = get_or-set_same s.values key (Some left) None below in
      ap (λ place. if is_some place then slot_table_vacate (slot_table_set s key left) key else slot_table_set s key left) written
      ∙ ap (λ places. let t : SlotTableState T = record { values = places; free = key ∷ s.free } in t) (set-set s.values key (Some left) None)
      ∙ sym (ap (λ place. if is_some place then slot_table_vacate s key else s) at)

  -- a key whose value is written or removed leaves the others
  pub record Settles (s : SlotTableState T) (key : ℕ) (new : SlotTableState T) : Type 0 where
    pub capacity : length new.values ≡ length s.values
    pub kept : (other : ℕ) → other ≢ key → value_at new other ≡ value_at s other

  pub Settles-slot_table_set : (s : SlotTableState T) (key : ℕ) (left : T) (new : SlotTableState T) → new ≡ slot_table_set s key left → Settles s key new
  Settles-slot_table_set s key left new is = record {
    capacity = ap (λ (t : SlotTableState T). length t.values) is ∙ length-set s.values key (Some left);
    kept = λ other apart. ap (λ (t : SlotTableState T). value_at t other) is ∙ get_or-set_other s.values key other (Some left) None apart;
  }

  pub Settles-retained : (s : SlotTableState T) (key : ℕ) (left : T) (keep : Bool) (new : SlotTableState T) → new ≡ (if keep then slot_table_set s key left else slot_table_remove s key) → Settles s key new
  Settles-retained s key left true new is = Settles-slot_table_set s key left new is
  Settles-retained s key left false new is = record {
    capacity = ap (λ (t : SlotTableState T). length t.values) is ∙ length-slot_table_remove s key;
    kept = λ other apart. ap (λ (t : SlotTableState T). value_at t other) is ∙ value_at-slot_table_remove_other s key other apart;
  }

  pub entries_from-append : (start : ℕ) (front back : List (Option T)) → entries_from start (front ++ back) ≡ entries_from start front ++ entries_from (start + length front) back
  entries_from-append start [] back = let same : start ≡ start + 0 = omega arith in ap (λ n. entries_from n back) same
  entries_from-append start (None ∷ front) back =
      let next : start + 1 + length front ≡ start + suc (length front) = omega arith in
      entries_from-append (start + 1) front back ∙ ap (λ n. entries_from (start + 1) front ++ entries_from n back) next
  entries_from-append start (Some value ∷ front) back =
      let next : start + 1 + length front ≡ start + suc (length front) = omega arith in
      ap (λ items. (start, value) ∷ items) (entries_from-append (start + 1) front back ∙ ap (λ n. entries_from (start + 1) front ++ entries_from n back) next)

  -- the entries of the places before this one, and of this place
  pub entries_from-take : (places : List (Option T)) (key : ℕ) (place : Option T) → key < length places → place_at places key ≡ place
      → entries_from 0 (take (key + 1) places) ≡ entries_from 0 (take key places) ++ entries_from key (place ∷ [])
  entries_from-take places key place below at =
      let long : length (take key places) ≡ key = length-take-le key places (omega arith) in
      let start : 0 + length (take key places) ≡ key = omega arith in
      ap (entries_from 0) (take_more places key None below)
      ∙ entries_from-append 0 (take key places) (place_at places key ∷ [])
      ∙ ap (λ n. entries_from 0 (take key places) ++ entries_from n (place_at places key ∷ [])) start
      ∙ ap (λ (p : Option T). entries_from 0 (take key places) ++ entries_from key (p ∷ [])) at

  -- all entries, where this place has one
  pub entries_from-split : (places : List (Option T)) (key : ℕ) (value : T) → place_at places key ≡ Some value
      → entries_from 0 places ≡ entries_from 0 (take key places) ++ (key, value) ∷ entries_from (key + 1) (drop (key + 1) places)
  entries_from-split places key value at =
      let below = place_at_within places key value at in
      let long : length (take key places) ≡ key = length-take-le key places (omega arith) in
      let start : 0 + length (take key places) ≡ key = omega arith in
      ap (entries_from 0) (sym (take-append-drop key places))
      ∙ entries_from-append 0 (take key places) (drop key places)
      ∙ ap (λ n. entries_from 0 (take key places) ++ entries_from n (drop key places)) start
      ∙ ap (λ rest. entries_from 0 (take key places) ++ entries_from key rest) (drop_more places key None below)
      ∙ ap (λ (p : Option T). entries_from 0 (take key places) ++ entries_from key (p ∷ drop (key + 1) places)) at

  module _ {F : Type 0} (R : F × SlotTableState T → ℕ × T → F × SlotTableState T → Type 0) (f : F) (s : SlotTableState T) where
    -- the closure was called with the held keys before this one, and the others have the values that they had
    pub record Visited (key : ℕ) (later : F) (now : SlotTableState T) : Type 0 where
      pub capacity : length now.values ≡ length s.values
      pub calls : FoldsTo R (f, s) (entries_from 0 (take key s.values)) (later, now)
      pub rest : (other : ℕ) → key ≤ other → value_at now other ≡ value_at s other

    pub Visited-free : (key : ℕ) (later : F) (now : SlotTableState T) → Visited key later now → key < length s.values → value_at now key ≡ None → Visited (key + 1) later now
    Visited-free key later now visited below none = record {
      capacity = visited.capacity;
      calls = subst (λ items. FoldsTo R (f, s) items (later, now)) (sym (entries_from-take s.values key None below (sym (visited.rest key (omega arith)) ∙ none) ∙ append-nil _)) visited.calls;
      rest = λ other past. visited.rest other (omega arith);
    }

    pub Visited-held : (key : ℕ) (later next : F) (now new : SlotTableState T) (value : T) → Visited key later now → value_at now key ≡ Some value → R (later, now) (key, value) (next, new)
        → Settles now key new → Visited (key + 1) next new
    Visited-held key later next now new value visited at step settles =
        let was : value_at s key ≡ Some value = sym (visited.rest key (omega arith)) ∙ at in
        record {
          capacity = settles.capacity ∙ visited.capacity;
          calls = subst (λ items. FoldsTo R (f, s) items (next, new)) (sym (entries_from-take s.values key (Some value) (place_at_within s.values key value was) was)) (FoldsTo-push R (f, s) _ (later, now) (key, value) (next, new) visited.calls step);
          rest = λ other past. settles.kept other (λ e. omega arith) ∙ visited.rest other (omega arith);
        }

    pub Visited-all : (key : ℕ) (later : F) (now : SlotTableState T) → Visited key later now → length s.values ≤ key → FoldsTo R (f, s) (entries s) (later, now)
    Visited-all key later now visited past =
        subst (λ places. FoldsTo R (f, s) (entries_from 0 places) (later, now)) (take_all key s.values past) visited.calls

    pub Visited-callable : {A : Type 0} (step : F → ℕ → MutBor T → A → MutBor T → F → Type 0) (pre : F → ℕ → MutBor T → Type 0) (key : ℕ) (later : F) (now : SlotTableState T) (shown : MutBor T)
        → ((p q : F × SlotTableState T) (x : ℕ × T) → R p x q → SomeCallOn step p.0 x q.0)
        → IsCallableOnEach step pre f (entries s) → Visited key later now → value_at now key ≡ Some shown.now → pre later key shown
    Visited-callable step pre key later now shown each callable visited at =
        callable.at _ _ key shown later (entries_from-split s.values key shown.now (sym (visited.rest key (omega arith)) ∙ at)) (FoldsTo-first R (SomeCallOn step) each _ _ _ visited.calls)
