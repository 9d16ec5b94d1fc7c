-- A greater capacity needs no less memory, and sizes as words hold them.
use Rattle.std.proofs.Common.{◌≡◌, ℕ, ◌+◌, ◌-◌, ◌*◌, ◌^◌, ◌≤◌, Bool, true, false, nat_eq, inl, inr, refl, sym, ◌∙◌, subst, cond, arith}
use lib.Dec.{T, ltb, ltb→lt}
use prog.Memory.{capped}
use prog.Capped.{capped_is}
use Rattle.std.specs.Prelude.{if◌then◌else◌}
use Rattle.std.proofs.Math.Nat.{min-eq_left, min_comm, mul-le-mul_right}
use Rattle.std.proofs.lemmas.Bool.{cases_lt}
use Rattle.std.proofs.lemmas.Grind.{common_steps}
use Rattle.ix_tables.specs.Memory.{saturated, items_memory, memory_plus, table_memory}

pub saturated-mono : (m n : ℕ) → m ≤ n → saturated m ≤ saturated n
saturated-mono m n le = grind (arith, common_steps)

pub items_memory-mono : (size m n : ℕ) → m ≤ n → (items_memory size m).bytes ≤ (items_memory size n).bytes
items_memory-mono size m n le =
    saturated-mono (m * size) (n * size) (mul-le-mul_right size le)

table_memory-bytes : (size n : ℕ) → (table_memory size n).bytes ≡ saturated ((items_memory size n).bytes + (items_memory 1 n).bytes)
table_memory-bytes size n = either _ refl
  where
    either : (b : Bool) → nat_eq (items_memory size n).bytes 0 ≡ b
        → (if b then items_memory 1 n else memory_plus (items_memory size n) (items_memory 1 n)).bytes ≡ saturated ((items_memory size n).bytes + (items_memory 1 n).bytes)
    either true none = grind (arith, common_steps)
    either false some = refl

pub table_memory-mono : (size m n : ℕ) → m ≤ n → (table_memory size m).bytes ≤ (table_memory size n).bytes
table_memory-mono size m n le =
    let places = items_memory-mono size m n le in
    let marks = items_memory-mono 1 m n le in
    let few = table_memory-bytes size m in
    let many = table_memory-bytes size n in
    let more = saturated-mono ((items_memory size m).bytes + (items_memory 1 m).bytes) ((items_memory size n).bytes + (items_memory 1 n).bytes) (omega (arith, places, marks)) in
    omega (arith, few, many, more)

-- a size as a word holds it
pub capped-is_saturated : (n : ℕ) → capped n ≡ saturated n
capped-is_saturated n = elim (cases_lt n (2 ^ 64)) [
  | inl below ↦ capped_is n below ∙ sym (min-eq_left (omega (arith, below)))
  | inr above ↦ capped-above n above ∙ sym (min_comm n (2 ^ 64 - 1) ∙ min-eq_left (omega (arith, above)))
]
  where
    from : (n : ℕ) (b : Bool) → ltb n (2 ^ 64) ≡ b → 2 ^ 64 ≤ n → cond b n (2 ^ 64 - 1) ≡ 2 ^ 64 - 1
    from n true is above = let below = ltb→lt n (2 ^ 64) (subst T (sym is) tt) in absurd (omega (arith, above, below))
    from n false is above = refl

    capped-above : (n : ℕ) → 2 ^ 64 ≤ n → capped n ≡ 2 ^ 64 - 1
    capped-above n above = from n (ltb n (2 ^ 64)) refl above
