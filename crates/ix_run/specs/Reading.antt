-- Numbers in a line.
use Rattle.std.specs.Prelude.{ℕ, ◌^◌, ◌*◌, ◌+◌, ◌-◌, List, [], ◌∷◌, nat_lt, if◌then◌else◌, ◌&&◌, Option, None, Some, decimal, bytes_eq}

-- the value of decimal digits that follow those of n
abbrev pub digits_value_from : ℕ → List ℕ → ℕ
digits_value_from n [] = n
digits_value_from n (digit ∷ digits) = digits_value_from (n * 10 + (digit - 48)) digits

-- the number below 2^64 whose decimal text the word is
abbrev pub number_of : List ℕ → Option ℕ
number_of word =
    if nat_lt (digits_value_from 0 word) (2 ^ 64) && bytes_eq (decimal (digits_value_from 0 word)) word then Some (digits_value_from 0 word) else None
