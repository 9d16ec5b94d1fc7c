-- Lemmas on encodings that the laws of impls cite: an encoding has the size of its type, and no two values have the same.
use Rattle.std.specs.Prelude.{◌≡◌, ℕ, ℤ, ◌+◌, ◌-◌, ◌*◌, ◌^◌, ◌<◌, ◌≤◌, FitsSigned, Bool, true, false, List, [], ◌∷◌, ◌++◌, slice_index, length, take, drop, replicate, refl, ◌==◌, ◌↔◌, Option, Some, None}
use Rattle.std.proofs.Common.{sym, ◌∙◌, ap, subst, arith}
use Rattle.std.specs.Int.{Width, w8, w32, w64, byte_len, cast_signed, cast_unsigned, from_le_bytes, to_le_bytes}
use Rattle.std.proofs.Math.Facts.{Fits-of_z}
use Rattle.std.proofs.Math.Seq.{take-append_seam, drop-append_seam}
use Rattle.std.proofs.lemmas.Grind.{common_steps}
use Rattle.std.proofs.lemmas.List.Sums.{position_or_len_is}
use Rattle.std.proofs.lemmas.Int.{to_z-of_z}
use Rattle.std.proofs.lemmas.List.{length-append}
use Rattle.ix_string.specs.Text.{IsText, padded_text, nul_position, before_nul}
use Rattle.std.specs.Option.{option_map}
use Rattle.ix_atomic.specs.Encoding.{bool_encoding, signed_encoding, i64_encoding, joint_size}
use Rattle.ix_atomic.specs.laws.NumberLaws.{Fits-bytes, from_le_bytes-to_le_bytes}

pub bool_encoding-one_value : (v w : Bool) → bool_encoding v ≡ bool_encoding w → v ≡ w
bool_encoding-one_value false false same = refl
bool_encoding-one_value false true same = absurd (grind (arith, common_steps))
bool_encoding-one_value true false same = absurd (grind (arith, common_steps))
bool_encoding-one_value true true same = refl

pub signed-from_encoding : (w : Width) (z : ℤ) → FitsSigned w z → cast_signed w (from_le_bytes w (signed_encoding w z)) ≡ z
signed-from_encoding w z is =
    ap (cast_signed w) (from_le_bytes-to_le_bytes w (cast_unsigned w z) (Fits-of_z is)) ∙ to_z-of_z w z is

pub signed_encoding-one_value : (w : Width) (v z : ℤ) → FitsSigned w v → FitsSigned w z → signed_encoding w v ≡ signed_encoding w z → v ≡ z
signed_encoding-one_value w v z v_is z_is same =
    sym (signed-from_encoding w v v_is) ∙ ap (λ bytes. cast_signed w (from_le_bytes w bytes)) same ∙ signed-from_encoding w z z_is

pub i64_encoding-one_value : (v w : ℤ) → FitsSigned w64 v → FitsSigned w64 w → i64_encoding v ≡ i64_encoding w → v ≡ w
i64_encoding-one_value = signed_encoding-one_value w64

-- the bits of a byte in two's complement are those of one number
pub i8_encoding-one_value : (v w : ℤ) → FitsSigned w8 v → FitsSigned w8 w → cast_unsigned w8 v ∷ [] ≡ cast_unsigned w8 w ∷ [] → v ≡ w
i8_encoding-one_value v w v_is w_is same =
    sym (to_z-of_z w8 v v_is) ∙ ap (λ bytes. cast_signed w8 (slice_index bytes 0)) same ∙ to_z-of_z w8 w w_is

pub unsigned_encoding-one_value : (w : Width) (m n : ℕ) → m < 2 ^ (8 * byte_len w) → n < 2 ^ (8 * byte_len w) → to_le_bytes w m ≡ to_le_bytes w n → m ≡ n
unsigned_encoding-one_value w m n m_is n_is same =
    sym (from_le_bytes-to_le_bytes w m (Fits-bytes w m m_is)) ∙ ap (from_le_bytes w) same ∙ from_le_bytes-to_le_bytes w n (Fits-bytes w n n_is)

pub padded_text-len : (capacity : ℕ) (text : List ℕ) → length text ≤ capacity → length (padded_text capacity text) ≡ capacity
padded_text-len capacity text within = grind (arith, common_steps)

pub nul_position-padded_text : (capacity : ℕ) (text : List ℕ) → IsText text → nul_position (padded_text capacity text) ≡ length text
nul_position-padded_text capacity text is =
    position_or_len_is (λ b. b == 0) (padded_text capacity text) (length text) 0 (grind (arith, common_steps))
    (λ k below. let here = is k 0 below in grind (arith, common_steps))
    (λ below. grind (arith, common_steps))

-- a string is the part before the zeros
pub before_nul-padded_text : (capacity : ℕ) (text : List ℕ) → IsText text → before_nul (padded_text capacity text) ≡ text
before_nul-padded_text capacity text is =
    ap (λ n. take n (padded_text capacity text)) (nul_position-padded_text capacity text is)
    ∙ take-append_seam text (replicate (capacity - length text) 0)

pub padded_text-one_value : (capacity : ℕ) (v w : List ℕ) → IsText v → IsText w → padded_text capacity v ≡ padded_text capacity w → v ≡ w
padded_text-one_value capacity v w v_is w_is same =
    sym (before_nul-padded_text capacity v v_is) ∙ ap before_nul same ∙ before_nul-padded_text capacity w w_is

-- two fronts of one length, each with a rest, are of one list only if they are the same
pub append-both : (xs ys us vs : List ℕ) → length xs ≡ length us → xs ++ ys ≡ us ++ vs → (xs ≡ us) × (ys ≡ vs)
append-both xs ys us vs long same =
    let front = sym (take-append_seam xs ys) ∙ (λ i. take (long i) (same i)) ∙ take-append_seam us vs in
    let back = sym (drop-append_seam xs ys) ∙ (λ i. drop (long i) (same i)) ∙ drop-append_seam us vs in (front, back)

-- If the fields of a value are decoded, the value is decoded too. `to` makes it from its fields, and `from` returns them.
pub decodes_by : {Fields V : Type 0} (to : Fields → V) (from : V → Fields) → ((fields : Fields) → from (to fields) ≡ fields) → ((value : V) → to (from value) ≡ value)
    → (Encodes : Fields → Type 0) (fields : Option Fields) (decoded : Option V) → decoded ≡ option_map to fields → ((f : Fields) → (fields ≡ Some f) ↔ Encodes f)
    → (value : V) → (decoded ≡ Some value) ↔ Encodes (from value)
decodes_by to from back forth Encodes (Some f) decoded is decodes value = (
  λ found. let same : Some (to f) ≡ Some value = sym is ∙ found in let made : to f ≡ value = cc in
      subst Encodes (sym (back f) ∙ ap from made) ((decodes f).0 refl),
  λ encodes. let found = (decodes (from value)).1 encodes in let same : f ≡ from value = cc in is ∙ ap Some (ap to same ∙ forth value),
)
decodes_by to from back forth Encodes None decoded is decodes value =
    (λ found. let none : None ≡ Some value = sym is ∙ found in absurd (cc), λ encodes. let found = (decodes (from value)).1 encodes in absurd (cc))

pub u64_encoding-one_value : (m n : ℕ) → m < 2 ^ 64 → n < 2 ^ 64 → to_le_bytes w64 m ≡ to_le_bytes w64 n → m ≡ n
u64_encoding-one_value = unsigned_encoding-one_value w64

pub u32_encoding-one_value : (m n : ℕ) → m < 2 ^ 32 → n < 2 ^ 32 → to_le_bytes w32 m ≡ to_le_bytes w32 n → m ≡ n
u32_encoding-one_value = unsigned_encoding-one_value w32

-- no two pairs have the same encoding, if no two of their parts have, and the first part has always as many bytes
pub pair_encoding-one_value : {A B : Type 0} (IsA : A → Type 0) (IsB : B → Type 0) (encode_a : A → List ℕ) (encode_b : B → List ℕ) (size : ℕ)
    → ((a : A) → IsA a → length (encode_a a) ≡ size)
    → ((v w : A) → IsA v → IsA w → encode_a v ≡ encode_a w → v ≡ w)
    → ((v w : B) → IsB v → IsB w → encode_b v ≡ encode_b w → v ≡ w)
    → (v w : A × B) → IsA v.0 × IsB v.1 → IsA w.0 × IsB w.1 → encode_a v.0 ++ encode_b v.1 ≡ encode_a w.0 ++ encode_b w.1 → v ≡ w
pair_encoding-one_value IsA IsB encode_a encode_b size long one_a one_b v w v_is w_is same =
    let both = append-both (encode_a v.0) (encode_b v.1) (encode_a w.0) (encode_b w.1) (long v.0 v_is.0 ∙ sym (long w.0 w_is.0)) same in
    λ i. (one_a v.0 w.0 v_is.0 w_is.0 both.0 i, one_b v.1 w.1 v_is.1 w_is.1 both.1 i)

pub pair_encoding-len : {m n : ℕ} (xs ys : List ℕ) → length xs ≡ m → length ys ≡ n → m + n < 2 ^ 64 → length (xs ++ ys) ≡ joint_size m n
pair_encoding-len xs ys long_x long_y fits = let both = length-append xs ys in omega arith

pub triple_encoding-len : {m n k : ℕ} (xs ys zs : List ℕ) → length xs ≡ m → length ys ≡ n → length zs ≡ k → m + (n + k) < 2 ^ 64 → length (xs ++ (ys ++ zs)) ≡ joint_size m (joint_size n k)
triple_encoding-len xs ys zs long_x long_y long_z fits = let all = length-append xs (ys ++ zs) in let rest = length-append ys zs in omega arith

pub triple_encoding-one_value : {A B C : Type 0} (IsA : A → Type 0) (IsB : B → Type 0) (IsC : C → Type 0)
    (encode_a : A → List ℕ) (encode_b : B → List ℕ) (encode_c : C → List ℕ) (size_a size_b : ℕ)
    → ((a : A) → IsA a → length (encode_a a) ≡ size_a) → ((b : B) → IsB b → length (encode_b b) ≡ size_b)
    → ((v w : A) → IsA v → IsA w → encode_a v ≡ encode_a w → v ≡ w)
    → ((v w : B) → IsB v → IsB w → encode_b v ≡ encode_b w → v ≡ w)
    → ((v w : C) → IsC v → IsC w → encode_c v ≡ encode_c w → v ≡ w)
    → (v w : A × B × C) → IsA v.0 × IsB v.1 × IsC v.2 → IsA w.0 × IsB w.1 × IsC w.2
    → encode_a v.0 ++ (encode_b v.1 ++ encode_c v.2) ≡ encode_a w.0 ++ (encode_b w.1 ++ encode_c w.2) → v ≡ w
triple_encoding-one_value IsA IsB IsC encode_a encode_b encode_c size_a size_b long_a long_b one_a one_b one_c v w v_is w_is same =
    let first = append-both (encode_a v.0) (encode_b v.1 ++ encode_c v.2) (encode_a w.0) (encode_b w.1 ++ encode_c w.2) (long_a v.0 v_is.0 ∙ sym (long_a w.0 w_is.0)) same in
    let rest = pair_encoding-one_value IsB IsC encode_b encode_c size_b long_b one_b one_c (v.1, v.2) (w.1, w.2) (v_is.1, v_is.2) (w_is.1, w_is.2) first.1 in
    λ i. (one_a v.0 w.0 v_is.0 w_is.0 first.0 i, (rest i).0, (rest i).1)
