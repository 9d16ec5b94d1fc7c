-- Lemmas on the index of the first zero.
use Rattle.std.proofs.Common.{ℕ, ◌≡◌, ◌<◌, ◌≤◌, inl, inr, List, length, take, arith}
use Rattle.std.specs.Prelude.{Option, Some, None, unwrap_or, min, ◌==◌, not}
use Rattle.std.proofs.lemmas.Bool.{cases_lt}
use Rattle.std.proofs.lemmas.List.Sums.{passes_at_first, fails_before_first, prefix_len-le-length}
use Rattle.std.proofs.lemmas.Grind.{common_steps}
use Rattle.memchr.specs.Find.{IsFirstByte, Nowhere, NoneBefore, Passes, is_byte}
use Rattle.ix_string.specs.Text.{nul_position}

nul_position-within : (bytes : List ℕ) → nul_position bytes ≤ length bytes
nul_position-within bytes = prefix_len-le-length (λ b. not (b == 0)) bytes

-- the first end bytes have a zero at that index, if they are long enough
passes_at : (bytes : List ℕ) (end : ℕ) → nul_position bytes < end → nul_position bytes < length bytes → Passes (is_byte 0) (take end bytes) (nul_position bytes)
passes_at bytes end below within = grind (arith, common_steps, passes_at_first (λ b. b == 0) bytes 0)

-- where the first i bytes have no zero
nowhere_before : (bytes : List ℕ) (end i : ℕ) → i ≤ end → end ≤ length bytes → Nowhere (Passes (is_byte 0) (take end bytes)) 0 i → i ≤ nul_position bytes
nowhere_before bytes end i low within none = elim (cases_lt (nul_position bytes) i) [
  | inl below ↦ absurd (none (nul_position bytes) (omega arith) below (passes_at bytes end (omega arith) (omega arith)))
  | inr past ↦ omega arith
]

-- the search finds a zero in the first end bytes
nul_position-found : (bytes : List ℕ) (n end place : ℕ) → end ≡ min n (length bytes) → NoneBefore (Passes (is_byte 0) (take end bytes)) 0 (length (take end bytes)) place × Passes (is_byte 0) (take end bytes) place → place ≡ min n (nul_position bytes)
nul_position-found bytes n end place is found =
    let high = found.0.high in
    let front : length (take end bytes) ≡ end = grind (arith, common_steps) in
    let below = nowhere_before bytes end place (omega arith) (omega arith) found.0.before in
    let most : nul_position bytes ≤ place = grind (arith, common_steps, found.1, fails_before_first (λ b. b == 0) bytes place 0) in
    omega arith

-- the search finds none
nul_position-missed : (bytes : List ℕ) (n end : ℕ) → end ≡ min n (length bytes) → Nowhere (Passes (is_byte 0) (take end bytes)) 0 (length (take end bytes)) → end ≡ min n (nul_position bytes)
nul_position-missed bytes n end is none =
    let front : length (take end bytes) ≡ end = grind (arith, common_steps) in
    let within = nul_position-within bytes in
    let below = nowhere_before bytes end end (omega arith) (omega arith) (λ k low high. none k low (omega arith)) in
    omega arith

-- the result of the search
pub nul_position-searched : (bytes : List ℕ) (n end : ℕ) (place : Option ℕ) → end ≡ min n (length bytes) → IsFirstByte (is_byte 0) (take end bytes) place → unwrap_or place end ≡ min n (nul_position bytes)
nul_position-searched bytes n end (Some place) is found = nul_position-found bytes n end place is found
nul_position-searched bytes n end None is none = nul_position-missed bytes n end is none
