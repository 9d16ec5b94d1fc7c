-- Lemmas on words and their bytes.
use Rattle.std.proofs.Common.{◌≡◌, ℕ, zero, suc, ◌+◌, ◌-◌, ◌*◌, ◌/◌, ◌%◌, ◌<◌, ◌≤◌, List, [], ◌∷◌, ◌++◌, length, take, drop, replicate, get_or, refl, ap, ap₂, ◌∙◌, arith, length-append}
use Rattle.std.proofs.lemmas.List.{length-replicate, drop-replicate}
use Rattle.std.specs.Int.{w64, to_le_bytes, from_le_bytes}
use Rattle.ix_atomic.specs.Words.{word_of, bytes_of_word}

-- the bytes of a word are those that it was made of
pub bytes_of_word-word_of : (bytes : List ℕ) → ((i : ℕ) → get_or bytes i 0 < 256) → bytes_of_word (length bytes) (word_of bytes) ≡ bytes
bytes_of_word-word_of [] below = refl
bytes_of_word-word_of (byte ∷ bytes) below =
    let small : byte < 256 = below 0 in
    let low : (byte + 256 * word_of bytes) % 256 ≡ byte = omega arith in
    let high : (byte + 256 * word_of bytes) / 256 ≡ word_of bytes = omega arith in
    ap₂ ◌∷◌ low (ap (bytes_of_word (length bytes)) high ∙ bytes_of_word-word_of bytes (λ i. below (suc i)))

-- zeros at the end add nothing
word_of-zeros : (count : ℕ) → word_of (replicate count 0) ≡ 0
word_of-zeros zero = refl
word_of-zeros (suc count) = let rest = word_of-zeros count in omega arith

word_of-filled : (bytes : List ℕ) (count : ℕ) → word_of (bytes ++ replicate count 0) ≡ word_of bytes
word_of-filled [] count = word_of-zeros count
word_of-filled (byte ∷ bytes) count = ap (λ n. byte + 256 * n) (word_of-filled bytes count)

from_le_bytes-word_of : (bytes : List ℕ) → length bytes ≡ 8 → from_le_bytes w64 bytes ≡ word_of bytes
from_le_bytes-word_of (a ∷ b ∷ c ∷ d ∷ e ∷ f ∷ g ∷ h ∷ []) long = omega arith
from_le_bytes-word_of _ long = absurd (omega arith)

-- up to eight bytes, put before zeros
pub from_le_bytes-filled : (bytes : List ℕ) → length bytes ≤ 8 → from_le_bytes w64 (bytes ++ drop (length bytes) (replicate 8 0)) ≡ word_of bytes
from_le_bytes-filled bytes within =
    let zeros : List ℕ = replicate (8 - length bytes) 0 in
    let count : length zeros ≡ 8 - length bytes = length-replicate (8 - length bytes) 0 in
    let long : length (bytes ++ zeros) ≡ length bytes + length zeros = length-append bytes zeros in
    ap (λ rest. from_le_bytes w64 (bytes ++ rest)) (drop-replicate (length bytes) 8 0)
    ∙ from_le_bytes-word_of (bytes ++ zeros) (omega arith)
    ∙ word_of-filled bytes (8 - length bytes)

pub take-bytes_of_word : (count all word : ℕ) → count ≤ all → take count (bytes_of_word all word) ≡ bytes_of_word count word
take-bytes_of_word zero all word within = refl
take-bytes_of_word (suc count) zero word within = absurd (omega arith)
take-bytes_of_word (suc count) (suc all) word within = ap (λ bytes. word % 256 ∷ bytes) (take-bytes_of_word count all (word / 256) (omega arith))

pub length-bytes_of_word : (count word : ℕ) → length (bytes_of_word count word) ≡ count
length-bytes_of_word zero word = refl
length-bytes_of_word (suc count) word = ap suc (length-bytes_of_word count (word / 256))

pub to_le_bytes-bytes_of_word : (word : ℕ) → to_le_bytes w64 word ≡ bytes_of_word 8 word
to_le_bytes-bytes_of_word word =
    let second : word / 65536 ≡ word / 256 / 256 = omega arith in
    let third : word / 16777216 ≡ word / 256 / 256 / 256 = omega arith in
    let fourth : word / 4294967296 ≡ word / 256 / 256 / 256 / 256 = omega arith in
    let fifth : word / 1099511627776 ≡ word / 256 / 256 / 256 / 256 / 256 = omega arith in
    let sixth : word / 281474976710656 ≡ word / 256 / 256 / 256 / 256 / 256 / 256 = omega arith in
    let seventh : word / 72057594037927936 ≡ word / 256 / 256 / 256 / 256 / 256 / 256 / 256 = omega arith in
    λ i. word % 256 ∷ word / 256 % 256 ∷ second i % 256 ∷ third i % 256 ∷ fourth i % 256 ∷ fifth i % 256 ∷ sixth i % 256 ∷ seventh i % 256 ∷ []
