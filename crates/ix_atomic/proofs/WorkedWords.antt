-- Worked examples: bytes that are packed into words of eight.
use Rattle.std.proofs.Common.{◌≡◌, [], ◌∷◌, refl}
use Rattle.ix_atomic.specs.Words.{word_of, bytes_of_word, word_count}
use Rattle.ix_atomic.specs.inner.DataWords.{words_of}

word_of-two_bytes : word_of (4 ∷ 6 ∷ []) ≡ 1540
word_of-two_bytes = refl

word_of-text : word_of (97 ∷ 98 ∷ 0 ∷ 2 ∷ []) ≡ 33579617
word_of-text = refl

word_of-nothing : word_of [] ≡ 0
word_of-nothing = refl

bytes_of_word-two_bytes : bytes_of_word 2 1540 ≡ 4 ∷ 6 ∷ []
bytes_of_word-two_bytes = refl

-- the bytes beyond those that the word was packed of are zeros
bytes_of_word-filled : bytes_of_word 4 1540 ≡ 4 ∷ 6 ∷ 0 ∷ 0 ∷ []
bytes_of_word-filled = refl

word_count-eight : word_count 8 ≡ 1
word_count-eight = refl

word_count-nine : word_count 9 ≡ 2
word_count-nine = refl

words_of-nothing : words_of [] ≡ []
words_of-nothing = refl

-- nine bytes take two words, the second one of a single byte
words_of-nine_bytes : words_of (1 ∷ 2 ∷ 0 ∷ 0 ∷ 0 ∷ 0 ∷ 0 ∷ 0 ∷ 5 ∷ []) ≡ 513 ∷ 5 ∷ []
words_of-nine_bytes = refl
