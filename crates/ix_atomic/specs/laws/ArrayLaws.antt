-- Laws of the encodings of values of one type, one behind the other, which each have the size of the type.
use Rattle.std.specs.Prelude.{◌≡◌, ℕ, suc, ◌+◌, ◌*◌, List, [], ◌∷◌, length, All, refl}
use Rattle.std.specs.List.{flat_map}
use Rattle.std.proofs.Common.{sym, ◌∙◌, ap, arith}
use Rattle.std.proofs.Math.Nat.{suc-mul}
use Rattle.std.proofs.lemmas.List.{length-append}
use Rattle.std.proofs.lemmas.List.Elements.{All-head, All-tail}
use Rattle.ix_atomic.specs.Encoding.{array_size, AreValues}
use Rattle.ix_atomic.specs.laws.EncodingLaws.{append-both}

module _ {T : Type 0} (is_value : T → Type 0) (encoding : T → List ℕ) (size : ℕ) (long : (v : T) → is_value v → length (encoding v) ≡ size) where
  pub flat_map-len : (values : List T) → All is_value values → length (flat_map encoding values) ≡ length values * size
  flat_map-len [] are = omega arith
  flat_map-len (value ∷ values) are =
      length-append (encoding value) (flat_map encoding values)
      ∙ (λ i. long value (All-head is_value value values are) i + flat_map-len values (All-tail is_value value values are) i)
      ∙ sym (together (length values))
    where
      together : (count : ℕ) → suc count * size ≡ size + count * size
      together count = let more = suc-mul count size in omega arith

  pub flat_map-one_value : ((v w : T) → is_value v → is_value w → encoding v ≡ encoding w → v ≡ w) → (vs ws : List T) → All is_value vs → All is_value ws → length vs ≡ length ws → flat_map encoding vs ≡ flat_map encoding ws → vs ≡ ws
  flat_map-one_value one [] [] v_are w_are count same = refl
  flat_map-one_value one [] (w ∷ ws) v_are w_are count same = absurd (omega arith)
  flat_map-one_value one (v ∷ vs) [] v_are w_are count same = absurd (omega arith)
  flat_map-one_value one (v ∷ vs) (w ∷ ws) v_are w_are count same =
      let v_is = All-head is_value v vs v_are in let w_is = All-head is_value w ws w_are in
      let both = append-both (encoding v) (flat_map encoding vs) (encoding w) (flat_map encoding ws) (long v v_is ∙ sym (long w w_is)) same in
      let rest = flat_map-one_value one vs ws (All-tail is_value v vs v_are) (All-tail is_value w ws w_are) (omega arith) both.1 in
      λ i. one v w v_is w_is both.0 i ∷ rest i

  pub array_encoding-len : (count : ℕ) (values : List T) → AreValues count size is_value values → length (flat_map encoding values) ≡ array_size count size
  array_encoding-len count values are =
      let all = flat_map-len values are.1 in let as_many : length values * size ≡ count * size = ap (λ n. n * size) are.0 in let fits = are.2 in
      omega arith

  pub array_encoding-one_value : ((v w : T) → is_value v → is_value w → encoding v ≡ encoding w → v ≡ w) → (count : ℕ) (vs ws : List T) → AreValues count size is_value vs → AreValues count size is_value ws → flat_map encoding vs ≡ flat_map encoding ws → vs ≡ ws
  array_encoding-one_value one count vs ws v_are w_are same = flat_map-one_value one vs ws v_are.1 w_are.1 (v_are.0 ∙ sym w_are.0) same

-- an array of bytes is its own encoding
pub byte_array_encoding : (bytes : List ℕ) → flat_map (λ byte. byte ∷ []) bytes ≡ bytes
byte_array_encoding [] = refl
byte_array_encoding (byte ∷ bytes) = ap (λ rest. byte ∷ rest) (byte_array_encoding bytes)
