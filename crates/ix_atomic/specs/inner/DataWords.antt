-- The words that have the bytes of a value.
use Rattle.std.specs.Prelude.{ℕ, List, map, length}
use Rattle.std.specs.Simd.{first_chunks}
use Rattle.ix_atomic.specs.Words.{word_of, word_count}

-- the bytes, eight a word; those that the last word lacks count as 0
abbrev pub words_of : List ℕ → List ℕ
words_of bytes = map word_of (first_chunks 8 (word_count (length bytes)) bytes)
