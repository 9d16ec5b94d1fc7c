-- How often a key occurs among some keys.
use Rattle.std.proofs.Common.{◌≡◌, ℕ, zero, suc, ◌+◌, ◌<◌, ◌≤◌, ◌≢◌, inl, inr, List, [], ◌∷◌, ◌++◌, cond, true, false, refl, sym, ap, ◌∙◌, arith}
use Rattle.std.specs.Prelude.{nat_eq, count_by, if◌then◌else◌}
use Rattle.std.specs.List.{range_with_len}
use Rattle.std.proofs.lemmas.Bool.{cases_eq}
use Rattle.std.proofs.lemmas.Bool.Decides.{nat_tests}
use Rattle.std.proofs.lemmas.List.Sums.{sum_by-cons, sum_by-append}
use Rattle.ix_slottable.specs.SlotTableSteps.{keys_without}
use Rattle.ix_slottable.specs.inner.FreeList.{first_or, last_or}

-- how often the key occurs
abbrev pub key_count : ℕ → List ℕ → ℕ
key_count key keys = count_by (nat_eq key) keys

-- 1 if the two keys are equal
abbrev pub hit : ℕ → ℕ → ℕ
hit key other = cond (nat_eq key other) 1 0

pub hit_same : (key other : ℕ) → key ≡ other → hit key other ≡ 1
hit_same key other is = grind (arith, nat_tests)

pub hit_other : (key other : ℕ) → key ≢ other → hit key other ≡ 0
hit_other key other apart = grind (arith, nat_tests)

pub key_count-cons : (key other : ℕ) (keys : List ℕ) → key_count key (other ∷ keys) ≡ hit key other + key_count key keys
key_count-cons key other keys = sum_by-cons (hit key) other keys

pub key_count-append : (key : ℕ) (front back : List ℕ) → key_count key (front ++ back) ≡ key_count key front + key_count key back
key_count-append key front back = sum_by-append (hit key) front back

-- a key that does not occur is not the first
pub apart_from_first : (key other : ℕ) (keys : List ℕ) → key_count key (other ∷ keys) ≡ 0 → key ≢ other
apart_from_first key other keys none is =
    let one = hit_same key other is in
    let all = key_count-cons key other keys in omega arith

-- the keys before the first occurrence of a key, and those after it
pub record Split (key : ℕ) (keys : List ℕ) : Type 0 where
  pub front : List ℕ
  pub back : List ℕ
  pub is : keys ≡ front ++ key ∷ back
  pub rest : keys_without key keys ≡ front ++ back
  pub not_before : key_count key front ≡ 0

pub split_at_key : (key : ℕ) (keys : List ℕ) → 0 < key_count key keys → Split key keys
split_at_key key [] some = let none : key_count key [] ≡ 0 = refl in absurd (omega arith)
split_at_key key (other ∷ keys) some = elim (cases_eq key other) [
  | inl here ↦ record {
    front = [];
    back = keys;
    is = ap (λ k. k ∷ keys) (sym here);
    rest = let yes : nat_eq key other ≡ true = grind (arith, nat_tests) in ap (λ b. if b then keys else (other ∷ keys_without key keys)) yes;
    not_before = refl;
  }
  | inr there ↦
      let none = hit_other key other there in
      let all = key_count-cons key other keys in
      let later = split_at_key key keys (omega arith) in record {
        front = other ∷ later.front;
        back = later.back;
        is = ap (λ ks. other ∷ ks) later.is;
        rest = let no : nat_eq key other ≡ false = grind (arith, nat_tests) in ap (λ b. if b then keys else (other ∷ keys_without key keys)) no ∙ ap (λ ks. other ∷ ks) later.rest;
        not_before = let front_all = key_count-cons key other later.front in let absent = later.not_before in omega arith;
      }
]

pub keys_without-absent : (key : ℕ) (keys : List ℕ) → key_count key keys ≡ 0 → keys_without key keys ≡ keys
keys_without-absent key [] none = refl
keys_without-absent key (other ∷ keys) none =
    let apart = apart_from_first key other keys none in
    let all = key_count-cons key other keys in
    let no : nat_eq key other ≡ false = grind (arith, nat_tests) in
    ap (λ b. if b then keys else (other ∷ keys_without key keys)) no ∙ ap (λ ks. other ∷ ks) (keys_without-absent key keys (omega arith))

pub first_occurs : (key : ℕ) (keys : List ℕ) → 0 < key_count key (key ∷ keys)
first_occurs key keys = let one = hit_same key key refl in let all = key_count-cons key key keys in omega arith

-- a key that does not occur, and is not the one before these, is not the last
pub apart_from_last_or : (key before : ℕ) (keys : List ℕ) → key_count key keys ≡ 0 → key ≢ before → key ≢ last_or before keys
apart_from_last_or key before [] none apart = apart
apart_from_last_or key before (other ∷ keys) none apart =
    let all = key_count-cons key other keys in
    apart_from_last_or key other keys (omega arith) (apart_from_first key other keys none)

-- a key that does not occur, and is not the one after these, is not the first
pub apart_from_first_or : (key after : ℕ) (keys : List ℕ) → key_count key keys ≡ 0 → key ≢ after → key ≢ first_or keys after
apart_from_first_or key after [] none apart = apart
apart_from_first_or key after (other ∷ keys) none apart = apart_from_first key other keys none

pub key_count-range_below : (start count key : ℕ) → key < start → key_count key (range_with_len start count) ≡ 0
key_count-range_below start zero key low = refl
key_count-range_below start (suc count) key low =
    let none = hit_other key start (λ e. omega arith) in
    let all = key_count-cons key start (range_with_len (start + 1) count) in
    let later = key_count-range_below (start + 1) count key (omega arith) in omega arith

pub key_count-range_past : (start count key : ℕ) → start + count ≤ key → key_count key (range_with_len start count) ≡ 0
key_count-range_past start zero key high = refl
key_count-range_past start (suc count) key high =
    let none = hit_other key start (λ e. omega arith) in
    let all = key_count-cons key start (range_with_len (start + 1) count) in
    let later = key_count-range_past (start + 1) count key (omega arith) in omega arith

pub key_count-range_within : (start count key : ℕ) → start ≤ key → key < start + count → key_count key (range_with_len start count) ≡ 1
key_count-range_within start zero key low high = absurd (omega arith)
key_count-range_within start (suc count) key low high =
    let all = key_count-cons key start (range_with_len (start + 1) count) in
    elim (cases_eq key start) [
      | inl here ↦ let one = hit_same key start here in let later = key_count-range_below (start + 1) count key (omega arith) in omega arith
      | inr there ↦ let none = hit_other key start there in let later = key_count-range_within (start + 1) count key (omega arith) (omega arith) in omega arith
    ]
