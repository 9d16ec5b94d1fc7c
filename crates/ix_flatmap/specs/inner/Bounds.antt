-- How the bound of a flat map follows its pairs.
use Rattle.std.specs.Prelude.{ℕ, ◌+◌, nat_eq, nat_lt, if◌then◌else◌}

-- the bound once this slot has a value too
abbrev pub bound_with : ℕ → ℕ → ℕ
bound_with bound place = if nat_lt place bound then bound else place + 1

-- the bound once this slot, which was below it, has none
abbrev pub bound_without : ℕ → ℕ → ℕ
bound_without bound place = if nat_eq (place + 1) bound then place else bound
