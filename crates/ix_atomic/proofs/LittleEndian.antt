-- Lemmas on reading numbers whose least byte comes first.
use Rattle.std.proofs.Common.{ℕ, ℤ, ◌≡◌, ◌↔◌, ◌<◌, ◌*◌, ◌^◌, List, length, ap, sym, subst, ◌∙◌, FitsSigned, slice_index}
use Rattle.std.specs.Prelude.{Some}
use Rattle.std.specs.Int.{Width, byte_len, cast_signed, cast_unsigned, to_le_bytes, from_le_bytes}
use Rattle.std.proofs.lemmas.Int.{of_z-to_z}
use Rattle.ix_atomic.specs.Encoding.{signed_encoding}
use Rattle.ix_atomic.specs.laws.EncodingLaws.{signed-from_encoding}
use Rattle.ix_atomic.specs.laws.NumberLaws.{Fits-bytes, from_le_bytes-to_le_bytes, to_le_bytes-from_le_bytes, Fits-from_le_bytes}

abbrev pub AreBytes : List ℕ → Type 0
AreBytes bytes = (i : ℕ) → slice_index bytes i < 256

pub unsigned_decoding : (w : Width) (bytes : List ℕ) (n : ℕ) → length bytes ≡ byte_len w → AreBytes bytes → n ≡ from_le_bytes w bytes → n < 2 ^ (8 * byte_len w) → (v : ℕ) → (Some n ≡ Some v) ↔ ((v < 2 ^ (8 * byte_len w)) × (bytes ≡ to_le_bytes w v))
unsigned_decoding w bytes n long are read fits v = (
  λ some.
      let same : n ≡ v = cc in
      let P : ℕ → Type 0 = λ v. (v < 2 ^ (8 * byte_len w)) × (bytes ≡ to_le_bytes w v) in
      subst P same (fits, sym (ap (to_le_bytes w) read ∙ to_le_bytes-from_le_bytes w bytes long are)),
  λ is. ap Some (read ∙ ap (from_le_bytes w) is.1 ∙ from_le_bytes-to_le_bytes w v (Fits-bytes w v is.0)),
)

pub signed_decoding : (w : Width) (bytes : List ℕ) (z : ℤ) → length bytes ≡ byte_len w → AreBytes bytes → z ≡ cast_signed w (from_le_bytes w bytes) → FitsSigned w z → (v : ℤ) → (Some z ≡ Some v) ↔ (FitsSigned w v × (bytes ≡ signed_encoding w v))
signed_decoding w bytes z long are read fits v = (
  λ some.
      let same : z ≡ v = cc in
      let P : ℤ → Type 0 = λ v. FitsSigned w v × (bytes ≡ signed_encoding w v) in
      let number : cast_unsigned w z ≡ from_le_bytes w bytes = ap (cast_unsigned w) read ∙ of_z-to_z w (from_le_bytes w bytes) (Fits-from_le_bytes w bytes are).fits in
      subst P same (fits, sym (ap (to_le_bytes w) number ∙ to_le_bytes-from_le_bytes w bytes long are)),
  λ is. ap Some (read ∙ ap (λ bytes. cast_signed w (from_le_bytes w bytes)) is.1 ∙ signed-from_encoding w v is.0),
)
