-- Lemmas on reading a text that is padded with zeros.
use Rattle.std.proofs.Common.{ℕ, ◌≡◌, ◌↔◌, ◌-◌, ◌≤◌, List, [], ◌∷◌, ◌++◌, suc, length, take, drop, refl, ap, sym, subst, ◌∙◌, arith}
use Rattle.std.specs.Prelude.{◌==◌, not, min, All, replicate, Some, Result, Ok, Err}
use Rattle.std.specs.Result.{result_ok}
use Rattle.std.proofs.lemmas.Grind.{common_steps}
use Rattle.std.proofs.lemmas.List.{take-append-drop}
use Rattle.std.proofs.lemmas.List.Elements.{All-replicate}
use Rattle.std.proofs.lemmas.List.Sums.{prefix_len-le-length}
use Rattle.std.proofs.Math.Seq.{drop-append_seam}
use Rattle.ix_string.specs.Text.{IsText, padded_text, nul_position, before_nul}
use Rattle.ix_string.specs.TextSteps.{StringFromBytes}
use Rattle.ix_string.specs.declared.string.modification_error.StringModificationError.{StringModificationError}
use Rattle.ix_string.specs.declared.string.modification_error.StringModificationError.TheVariants.{InvalidCharacter, InsertWouldExceedCapacity}
use Rattle.ix_atomic.specs.laws.EncodingLaws.{nul_position-padded_text, before_nul-padded_text}

abbrev pub AreZeros : List ℕ → Type 0
AreZeros bytes = All (λ b. b ≡ 0) bytes

AreZeros-replicate : (bytes : List ℕ) → AreZeros bytes → bytes ≡ replicate (length bytes) 0
AreZeros-replicate [] zeros = refl
AreZeros-replicate (b ∷ bytes) zeros =
    let first : b ≡ 0 = zeros 0 0 (omega arith) in
    let rest = AreZeros-replicate bytes (λ k d below. zeros (suc k) d (omega arith)) in
    λ i. first i ∷ rest i

-- bytes with only zeros from the first one on are a padded text
padded_text-before_nul : (capacity : ℕ) (bytes : List ℕ) → length bytes ≡ capacity → AreZeros (drop (nul_position bytes) bytes) → bytes ≡ padded_text capacity (before_nul bytes)
padded_text-before_nul capacity bytes long zeros =
    let n = nul_position bytes in
    let within : n ≤ length bytes = prefix_len-le-length (λ b. not (b == 0)) bytes in
    let left : length (drop n bytes) ≡ capacity - length (take n bytes) = grind (arith, common_steps) in
    let rest = AreZeros-replicate (drop n bytes) zeros ∙ ap (λ (k : ℕ). replicate k 0) left in
    sym (take-append-drop n bytes) ∙ ap (λ zeros. take n bytes ++ zeros) rest

-- the whole length is no bound
pub min-nul_position : (bytes : List ℕ) → min (length bytes) (nul_position bytes) ≡ nul_position bytes
min-nul_position bytes = omega (arith, prefix_len-le-length (λ b. not (b == 0)) bytes)

pub AreZeros-padded_text : (capacity : ℕ) (bytes text : List ℕ) → IsText text → bytes ≡ padded_text capacity text → AreZeros (drop (nul_position bytes) bytes)
AreZeros-padded_text capacity bytes text is parts =
    let P : List ℕ → Type 0 = λ bytes. AreZeros bytes in
    let padding = replicate (capacity - length text) 0 in
    let behind : drop (nul_position bytes) bytes ≡ padding =
    rw (parts, nul_position-padded_text capacity text is) (drop-append_seam text padding) in
    subst P (sym behind) (All-replicate (λ b. b ≡ 0) (capacity - length text) 0 refl)

-- what is read from bytes with only zeros from the first one on
pub text_decoding : (capacity : ℕ) (bytes : List ℕ) (r : Result (List ℕ) StringModificationError) → length bytes ≡ capacity → AreZeros (drop (nul_position bytes) bytes) → StringFromBytes capacity (before_nul bytes) r → (v : List ℕ) → (result_ok r ≡ Some v) ↔ ((IsText v × (length v ≤ capacity)) × (bytes ≡ padded_text capacity v))
text_decoding capacity bytes (Ok text) long zeros gives v = (
  λ some.
      let same : before_nul bytes ≡ v = sym (gives.2) ∙ (let e : text ≡ v = cc in e) in
      let P : List ℕ → Type 0 = λ v. (IsText v × (length v ≤ capacity)) × (bytes ≡ padded_text capacity v) in
      subst P same ((gives.1, gives.0), padded_text-before_nul capacity bytes long zeros),
  λ is. ap Some (gives.2 ∙ ap before_nul is.1 ∙ before_nul-padded_text capacity v is.0.0),
)
text_decoding capacity bytes (Err InvalidCharacter) long zeros gives v = (
  λ some. absurd (cc),
  λ is. absurd (gives.1 (rw (ap before_nul is.1 ∙ before_nul-padded_text capacity v is.0.0) is.0.0)),
)
text_decoding capacity bytes (Err InsertWouldExceedCapacity) long zeros gives v = absurd (grind (arith, common_steps))
