-- Encodings: the bytes of a value.
use Rattle.std.specs.Prelude.{ℕ, ℤ, ◌≡◌, ◌+◌, ◌-◌, ◌*◌, ◌^◌, ◌<◌, min, Bool, true, false, List, [], ◌∷◌, length}
use Rattle.std.specs.Int.{Width, w64, cast_unsigned, to_le_bytes}
use Rattle.std.specs.List.{All}

abbrev pub bool_encoding : Bool → List ℕ
bool_encoding false = 0 ∷ []
bool_encoding true = 1 ∷ []

-- the bytes of the number with the same bits in two's complement
abbrev pub signed_encoding : Width → ℤ → List ℕ
signed_encoding w z = to_le_bytes w (cast_unsigned w z)

abbrev pub i64_encoding : ℤ → List ℕ
i64_encoding z = signed_encoding w64 z

-- the number of bytes of two encodings, one behind the other; `usize::MAX`, which is the length of no slice, if a `usize` cannot
-- count them
abbrev pub joint_size : ℕ → ℕ → ℕ
joint_size m n = min (m + n) (2 ^ 64 - 1)

-- the same of so many encodings of one size
abbrev pub array_size : ℕ → ℕ → ℕ
array_size count size = min (count * size) (2 ^ 64 - 1)

-- so many values, whose encodings of that size together are no more bytes than a `usize` can count
abbrev pub AreValues : {T : Type 0} → ℕ → ℕ → (T → Type 0) → List T → Type 0
AreValues count size is_value items = (length items ≡ count) × All is_value items × (count * size < 2 ^ 64)
