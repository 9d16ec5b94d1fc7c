-- The hash function FNV-1a of 64 bits.
use Rattle.std.specs.Prelude.{ℕ, ◌*◌, ◌%◌, ◌^◌, List, fold, bit_xor}

-- the hash of one more byte, which is mixed into the low bits before the whole is multiplied
abbrev pub fnv_step : ℕ → ℕ → ℕ
fnv_step state byte = bit_xor state byte * 0x100_0000_01b3 % 2 ^ 64

-- the hash of more bytes
abbrev pub fnv_bytes : ℕ → List ℕ → ℕ
fnv_bytes state bytes = fold fnv_step state bytes
