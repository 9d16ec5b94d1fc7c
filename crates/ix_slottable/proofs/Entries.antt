-- The entries of a slot table: each held key once, in rising order.
use Rattle.std.proofs.Common.{◌≡◌, ℕ, zero, suc, ◌+◌, ◌<◌, ◌≤◌, List, [], ◌∷◌, length, drop, get_or, true, false, Option, Some, None, refl, sym, ap, ◌∙◌, subst, arith}
use Rattle.std.specs.Prelude.{nat_eq, if◌then◌else◌, is_some, count_by}
use Rattle.std.specs.List.Sorted.{IsStrictlyIncreasing}
use Rattle.std.specs.Map.{keys_of, lookup}
use Rattle.std.proofs.lemmas.Bool.Decides.{nat_tests}
use Rattle.std.proofs.lemmas.List.Sums.{sum_by-cons}
use Rattle.ix_tables.specs.Places.{place_at, IsHeldAt}
use Rattle.ix_slottable.specs.SlotTableState.{SlotTableState, value_at, entries_from, entries}

-- some keys rise, and none is less than `start`
pub record Rises (start : ℕ) (keys : List ℕ) : Type 0 where
  pub rise : IsStrictlyIncreasing keys
  pub from : (i : ℕ) → i < length keys → start ≤ get_or keys i 0

Rises-cons_rise : (start : ℕ) (keys : List ℕ) → Rises (start + 1) keys → (i : ℕ) → i + 1 < length (start ∷ keys) → get_or (start ∷ keys) i 0 < get_or (start ∷ keys) (i + 1) 0
Rises-cons_rise start keys later zero below = let low = later.from 0 (omega arith) in omega arith
Rises-cons_rise start keys later (suc i) below =
    let next : suc i + 1 ≡ suc (i + 1) = omega arith in
    subst (λ n. get_or (start ∷ keys) (suc i) 0 < get_or (start ∷ keys) n 0) (sym next) (later.rise i (omega arith))

Rises-cons_from : (start : ℕ) (keys : List ℕ) → Rises (start + 1) keys → (i : ℕ) → i < length (start ∷ keys) → start ≤ get_or (start ∷ keys) i 0
Rises-cons_from start keys later zero below = omega arith
Rises-cons_from start keys later (suc i) below = let low = later.from i (omega arith) in omega arith

pub Rises-none : (start : ℕ) → Rises start []
Rises-none start = record { rise = λ i below. absurd (omega arith); from = λ i below. absurd (omega arith) }

pub Rises-weaken : (start : ℕ) (keys : List ℕ) → Rises (start + 1) keys → Rises start keys
Rises-weaken start keys later = record { rise = later.rise; from = λ i below. (let low = later.from i below in omega arith) }

pub Rises-cons : (start : ℕ) (keys : List ℕ) → Rises (start + 1) keys → Rises start (start ∷ keys)
Rises-cons start keys later =
    record { rise = λ i below. Rises-cons_rise start keys later i below; from = λ i below. Rises-cons_from start keys later i below }

-- one for a held place
abbrev pub one_if_held : {T : Type 0} → Option T → ℕ
one_if_held place = if is_some place then 1 else 0

module _ {T : Type 0} where
  Rises-entries_from : (start : ℕ) (places : List (Option T)) → Rises start (keys_of (entries_from start places))
  Rises-entries_from start [] = Rises-none start
  Rises-entries_from start (None ∷ places) = Rises-weaken start _ (Rises-entries_from (start + 1) places)
  Rises-entries_from start (Some value ∷ places) = Rises-cons start _ (Rises-entries_from (start + 1) places)

  pub IsStrictlyIncreasing-entries : (s : SlotTableState T) → IsStrictlyIncreasing (keys_of (entries s))
  IsStrictlyIncreasing-entries s = (Rises-entries_from 0 s.values).rise

  lookup-entries_from_below : (start key : ℕ) (places : List (Option T)) → key < start → lookup (nat_eq key) (entries_from start places) ≡ None
  lookup-entries_from_below start key [] low = refl
  lookup-entries_from_below start key (None ∷ places) low = lookup-entries_from_below (start + 1) key places (omega arith)
  lookup-entries_from_below start key (Some value ∷ places) low =
      let no : nat_eq key start ≡ false = grind (arith, nat_tests) in
      ap (λ b. if b then Some value else lookup (nat_eq key) (entries_from (start + 1) places)) no ∙ lookup-entries_from_below (start + 1) key places (omega arith)

  lookup-entries_from : (start i : ℕ) (places : List (Option T)) → lookup (nat_eq (start + i)) (entries_from start places) ≡ place_at places i
  lookup-entries_from start i [] = refl
  lookup-entries_from start zero (None ∷ places) = lookup-entries_from_below (start + 1) (start + 0) places (omega arith)
  lookup-entries_from start (suc i) (None ∷ places) =
      let next : start + suc i ≡ start + 1 + i = omega arith in
      ap (λ key. lookup (nat_eq key) (entries_from (start + 1) places)) next ∙ lookup-entries_from (start + 1) i places
  lookup-entries_from start zero (Some value ∷ places) =
      let yes : nat_eq (start + 0) start ≡ true = grind (arith, nat_tests) in
      ap (λ b. if b then Some value else lookup (nat_eq (start + 0)) (entries_from (start + 1) places)) yes
  lookup-entries_from start (suc i) (Some value ∷ places) =
      let no : nat_eq (start + suc i) start ≡ false = grind (arith, nat_tests) in
      let next : start + suc i ≡ start + 1 + i = omega arith in
      ap (λ b. if b then Some value else lookup (nat_eq (start + suc i)) (entries_from (start + 1) places)) no
      ∙ ap (λ key. lookup (nat_eq key) (entries_from (start + 1) places)) next ∙ lookup-entries_from (start + 1) i places

  pub lookup-entries : (s : SlotTableState T) (key : ℕ) → lookup (nat_eq key) (entries s) ≡ value_at s key
  lookup-entries s key = let from : key ≡ 0 + key = omega arith in ap (λ k. lookup (nat_eq k) (entries s)) from ∙ lookup-entries_from 0 key s.values

  pub count_by-is_some : (start : ℕ) (places : List (Option T)) → count_by is_some places ≡ length (entries_from start places)
  count_by-is_some start [] = refl
  count_by-is_some start (None ∷ places) = count_by-is_some (start + 1) places
  count_by-is_some start (Some value ∷ places) =
      let one : count_by is_some (Some value ∷ places) ≡ 1 + count_by is_some places = sum_by-cons one_if_held (Some value) places in
      let later = count_by-is_some (start + 1) places in omega arith

module _ {T : Type 0} where
  one_if_held-le_one : (place : Option T) → one_if_held place ≤ 1
  one_if_held-le_one None = omega arith
  one_if_held-le_one (Some value) = omega arith

  -- at most as many places have a value as lie before those that have none
  count_by-front : (places : List (Option T)) (bound : ℕ) → ((i : ℕ) → bound ≤ i → place_at places i ≡ None) → count_by is_some places ≤ bound
  count_by-front [] bound none = omega arith
  count_by-front (place ∷ places) zero none =
      let one = sum_by-cons one_if_held place places in
      let here : one_if_held place ≡ 0 = ap one_if_held (none 0 (omega arith)) in
      let rest = count_by-front places zero (λ i past. none (suc i) (omega arith)) in omega (arith, one, here, rest)
  count_by-front (place ∷ places) (suc bound) none =
      let one = sum_by-cons one_if_held place places in
      let here = one_if_held-le_one place in
      let rest = count_by-front places bound (λ i past. none (suc i) (omega arith)) in omega (arith, one, here, rest)

  -- where as many places have a value as lie before those that have none, each of the former has one
  pub IsHeld-front : (places : List (Option T)) (bound i : ℕ) → count_by is_some places ≡ bound → ((j : ℕ) → bound ≤ j → place_at places j ≡ None) → i < bound → IsHeldAt places i
  IsHeld-front [] bound i all none below = let zero_count : count_by is_some (let places : List (Option T) = [] in places) ≡ 0 = refl in absurd (omega arith)
  IsHeld-front (place ∷ places) zero i all none below = absurd (omega arith)
  IsHeld-front (None ∷ places) (suc bound) i all none below =
      let most = count_by-front places bound (λ j past. none (suc j) (omega arith)) in
      let same : count_by is_some (None ∷ places) ≡ count_by is_some places = refl in absurd (omega arith)
  IsHeld-front (Some value ∷ places) (suc bound) zero all none below = refl
  IsHeld-front (Some value ∷ places) (suc bound) (suc i) all none below =
      let one : count_by is_some (Some value ∷ places) ≡ 1 + count_by is_some places = sum_by-cons one_if_held (Some value) places in
      IsHeld-front places bound i (omega arith) (λ j past. none (suc j) (omega arith)) (omega arith)

  -- no value is met where there is none
  pub entries_from-none : (start key : ℕ) (places : List (Option T)) → ((i : ℕ) → start ≤ i → place_at places i ≡ None) → entries_from key (drop start places) ≡ []
  entries_from-none start key [] none = ap (entries_from key) (drop-nil start)
    where
      drop-nil : (n : ℕ) → drop n (let places : List (Option T) = [] in places) ≡ []
      drop-nil zero = refl
      drop-nil (suc n) = refl
  entries_from-none zero key (place ∷ places) none =
      ap (λ p. entries_from key (p ∷ places)) (none 0 (omega arith)) ∙ entries_from-none zero (key + 1) places (λ i past. none (suc i) (omega arith))
  entries_from-none (suc start) key (place ∷ places) none = entries_from-none start key places (λ i past. none (suc i) (omega arith))
