-- Escaped text: how bytes are printed.
use Rattle.std.specs.Prelude.{ℕ, ◌+◌, ◌/◌, ◌%◌, ◌==◌, ◌&&◌, List, [], ◌∷◌, ◌++◌, if◌then◌else◌, nat_lt, nat_le, flat_map, codes}

-- the lower-case hexadecimal digit of a number below 16
abbrev pub hex_digit : ℕ → ℕ
hex_digit n = if nat_lt n 10 then 48 + n else 87 + n

-- 9, 13 and 10 become `\t`, `\r` and `\n`, 32 to 127 stay, and every other byte becomes `\x` and two hexadecimal digits
abbrev pub escaped_byte : ℕ → List ℕ
escaped_byte b =
    if b == 9 then codes "\\t"
    else (if b == 13 then codes "\\r"
    else (if b == 10 then codes "\\n"
    else (if nat_le 32 b && nat_lt b 128 then b ∷ []
    else codes "\\x" ++ hex_digit (b / 16) ∷ hex_digit (b % 16) ∷ [])))

abbrev pub escaped_text : List ℕ → List ℕ
escaped_text = flat_map escaped_byte
