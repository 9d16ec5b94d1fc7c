-- Words of eight bytes, the least byte first.
use Rattle.std.specs.Prelude.{ℕ, zero, suc, ◌+◌, ◌*◌, ◌/◌, ◌%◌, List, [], ◌∷◌}

-- the number with these digits in base 256, the least one first
abbrev pub word_of : List ℕ → ℕ
word_of [] = 0
word_of (byte ∷ bytes) = byte + 256 * word_of bytes

-- this many bytes of a word, from the least one on
abbrev pub bytes_of_word : ℕ → ℕ → List ℕ
bytes_of_word zero word = []
bytes_of_word (suc count) word = word % 256 ∷ bytes_of_word count (word / 256)

-- how many words so many bytes take, eight a word
abbrev pub word_count : ℕ → ℕ
word_count len = (len + 7) / 8
