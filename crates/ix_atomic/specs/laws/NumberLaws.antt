-- Laws of numbers of any width and their bytes, the least byte first: each is found from the other.
use Rattle.std.specs.Prelude.{◌≡◌, ℕ, zero, suc, ◌+◌, ◌*◌, ◌/◌, ◌%◌, ◌^◌, ◌<◌, ◌≤◌, List, [], ◌∷◌, length, slice_index, refl}
use Rattle.std.proofs.Common.{sym, ◌∙◌, ap, arith, Fits}
use Rattle.std.specs.Int.{Width, w8, w16, w32, w64, w128, byte_len, byte_at, byte_worth, bytes_low_first, sum_through, from_le_bytes, to_le_bytes}
use Rattle.std.proofs.Math.Nat.{pow-succ', div-div-eq-div-mul, mod-eq_of_lt, mul-le-mul_right, mul_left_comm}

-- the number of k + 1 bytes
number : ℕ → List ℕ → ℕ
number k bytes = sum_through (λ i. byte_worth i (slice_index bytes i)) k

number-more : (k b : ℕ) (bytes : List ℕ) → number (suc k) (b ∷ bytes) ≡ b + 256 * number k bytes
unfolding number
number-more zero b bytes = omega arith
number-more (suc k) b bytes = more (number (suc k) (b ∷ bytes)) (number k bytes) (slice_index bytes (suc k)) (256 ^ suc k) (256 ^ suc (suc k)) (pow-succ' 256 (suc k)) (number-more k b bytes)
  where
    more : (whole rest x p q : ℕ) → q ≡ 256 * p → whole ≡ b + 256 * rest → whole + x * q ≡ b + 256 * (rest + x * p)
    more whole rest x p q is before = let times : x * q ≡ 256 * (x * p) = ap (λ q. x * q) is ∙ mul_left_comm x 256 p in omega arith

byte_at-more : (i n : ℕ) → byte_at (suc i) n ≡ byte_at i (n / 256)
byte_at-more zero n = refl
byte_at-more (suc i) n = ap (λ m. m % 256) (ap (λ p. n / p) (pow-succ' 256 (suc i)) ∙ sym (div-div-eq-div-mul n 256 (256 ^ suc i)))

bytes_low_first-more : (i k n : ℕ) → bytes_low_first (suc i) k n ≡ bytes_low_first i k (n / 256)
bytes_low_first-more i zero n = refl
bytes_low_first-more i (suc k) n = λ j. byte_at-more i n j ∷ bytes_low_first-more (suc i) k n j

-- the bytes of the number of bytes are these
bytes-number : (k : ℕ) (bytes : List ℕ) → length bytes ≡ suc k → ((i : ℕ) → slice_index bytes i < 256) → bytes_low_first 0 (suc k) (number k bytes) ≡ bytes
unfolding number
bytes-number k [] long are = absurd (omega arith)
bytes-number zero (b ∷ []) long are = λ i. mod-eq_of_lt (are 0) i ∷ []
bytes-number zero (b ∷ c ∷ bytes) long are = absurd (omega arith)
bytes-number (suc k) (b ∷ bytes) long are =
    let n = b + 256 * number k bytes in let byte = are 0 in
    let low : n % 256 ≡ b = omega arith in
    let high : n / 256 ≡ number k bytes = omega arith in
    let rest = bytes-number k bytes (omega arith) (λ i. are (suc i)) in
    ap (bytes_low_first 0 (suc (suc k))) (number-more k b bytes) ∙ (λ i. low i ∷ (bytes_low_first-more 0 (suc k) n ∙ ap (bytes_low_first 0 (suc k)) high ∙ rest) i)

-- the number of the bytes of a number is this number
number-bytes : (k n : ℕ) → n < 256 ^ suc k → number k (bytes_low_first 0 (suc k) n) ≡ n
unfolding number
number-bytes zero n below = mod-eq_of_lt below
number-bytes (suc k) n below =
    number-more k (n % 256) (bytes_low_first 1 (suc k) n)
    ∙ ap (λ bytes. n % 256 + 256 * number k bytes) (bytes_low_first-more 0 (suc k) n)
    ∙ whole (number k (bytes_low_first 0 (suc k) (n / 256))) (number-bytes k (n / 256) (smaller (256 ^ suc k) (256 ^ suc (suc k)) (pow-succ' 256 (suc k)) below))
  where
    smaller : (p q : ℕ) → q ≡ 256 * p → n < q → n / 256 < p
    smaller p q is less = omega arith

    whole : (m : ℕ) → m ≡ n / 256 → n % 256 + 256 * m ≡ n
    whole m is = omega arith

-- bytes are those of a number of as many bytes
number-below : (k : ℕ) (bytes : List ℕ) → ((i : ℕ) → slice_index bytes i < 256) → number k bytes < 256 ^ suc k
unfolding number
number-below zero bytes are = are 0
number-below (suc k) bytes are = more (number k bytes) (slice_index bytes (suc k)) (256 ^ suc k) (256 ^ suc (suc k)) (pow-succ' 256 (suc k)) (number-below k bytes are) (are (suc k))
  where
    more : (n x p q : ℕ) → q ≡ 256 * p → n < p → x < 256 → n + x * p < q
    more n x p q is below byte =
        let most : x * p ≤ 255 * p = mul-le-mul_right p (omega arith) in omega arith

-- a number fits into as many bits as so many bytes have
pub Fits-bytes : (w : Width) (n : ℕ) → n < 2 ^ (8 * byte_len w) → Fits w n
Fits-bytes w8 n below = record { fits = below }
Fits-bytes w16 n below = record { fits = below }
Fits-bytes w32 n below = record { fits = below }
Fits-bytes w64 n below = record { fits = below }
Fits-bytes w128 n below = record { fits = below }

pub from_le_bytes-to_le_bytes : (w : Width) (n : ℕ) → Fits w n → from_le_bytes w (to_le_bytes w n) ≡ n
unfolding number
from_le_bytes-to_le_bytes w8 n fits = number-bytes 0 n fits.fits
from_le_bytes-to_le_bytes w16 n fits = number-bytes 1 n fits.fits
from_le_bytes-to_le_bytes w32 n fits = number-bytes 3 n fits.fits
from_le_bytes-to_le_bytes w64 n fits = number-bytes 7 n fits.fits
from_le_bytes-to_le_bytes w128 n fits = number-bytes 15 n fits.fits

pub to_le_bytes-from_le_bytes : (w : Width) (bytes : List ℕ) → length bytes ≡ byte_len w → ((i : ℕ) → slice_index bytes i < 256) → to_le_bytes w (from_le_bytes w bytes) ≡ bytes
unfolding number
to_le_bytes-from_le_bytes w8 bytes long are = bytes-number 0 bytes long are
to_le_bytes-from_le_bytes w16 bytes long are = bytes-number 1 bytes long are
to_le_bytes-from_le_bytes w32 bytes long are = bytes-number 3 bytes long are
to_le_bytes-from_le_bytes w64 bytes long are = bytes-number 7 bytes long are
to_le_bytes-from_le_bytes w128 bytes long are = bytes-number 15 bytes long are

pub Fits-from_le_bytes : (w : Width) (bytes : List ℕ) → ((i : ℕ) → slice_index bytes i < 256) → Fits w (from_le_bytes w bytes)
unfolding number
Fits-from_le_bytes w8 bytes are = record { fits = number-below 0 bytes are }
Fits-from_le_bytes w16 bytes are = record { fits = number-below 1 bytes are }
Fits-from_le_bytes w32 bytes are = record { fits = number-below 3 bytes are }
Fits-from_le_bytes w64 bytes are = record { fits = number-below 7 bytes are }
Fits-from_le_bytes w128 bytes are = record { fits = number-below 15 bytes are }
