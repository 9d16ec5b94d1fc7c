-- Arrays are encoded and decoded value by value.
use Rattle.std.proofs.Common.{◌≡◌, ◌↔◌, ℕ, zero, suc, ◌+◌, ◌*◌, ◌<◌, ◌≤◌, List, [], ◌∷◌, ◌++◌, length, take, drop, All, Some, None, sym, ap, subst, ◌∙◌, arith}
use Rattle.std.specs.List.{flat_map}
use Rattle.std.proofs.Math.Nat.{suc-mul, mul-le-mul_right}
use Rattle.std.proofs.Math.Seq.{take-add, drop-append-add}
use Rattle.std.proofs.lemmas.List.{take_at, drop_at, drop-drop, take_all, append_assoc}
use Rattle.std.proofs.lemmas.List.Elements.{All-nil, All-cons, All-head, All-tail, All-append}
use Rattle.std.proofs.lemmas.Grind.{flat_map-append, common_steps}
use Rattle.ix_atomic.specs.laws.ArrayLaws.{flat_map-len, flat_map-one_value}

-- the bytes of one more value
pub times-more : (i size : ℕ) → (i + 1) * size ≡ i * size + size
times-more i size = let more = suc-mul i size in omega arith

pub times-within : (i n size : ℕ) → i < n → i * size + size ≤ n * size
times-within i n size below = let most : suc i * size ≤ n * size = mul-le-mul_right size (omega arith) in let more = suc-mul i size in omega arith

module _ {T : Type 0} (is_value : T → Type 0) (encoding : T → List ℕ) (size : ℕ) where
  -- a value of values in a row is where the bytes of those before it end
  pub record PartOf (bytes : List ℕ) (value : T) : Type 0 where
    pub is : is_value value
    pub bytes_are : take size bytes ≡ encoding value

  -- what an array is decoded as: the values so far have the bytes so far
  pub record DecodesFront (bytes : List ℕ) (count i : ℕ) (values : List T) : Type 0 where
    pub long_values : length values ≡ count
    pub are : All is_value (take i values)
    pub bytes_are : take (i * size) bytes ≡ flat_map encoding (take i values)

  module _ (long : (v : T) → is_value v → length (encoding v) ≡ size) where
    pub All-push : (values : List T) (value : T) → All is_value values → is_value value → All is_value (values ++ value ∷ [])
    All-push values value are is = All-append is_value values (value ∷ []) are (All-cons is_value value [] is (All-nil is_value))

    pub flat_map-push : (values : List T) (value : T) → flat_map encoding (values ++ value ∷ []) ≡ flat_map encoding values ++ encoding value
    flat_map-push values value = flat_map-append encoding values (value ∷ []) ∙ ap (λ rest. flat_map encoding values ++ rest) (nothing (encoding value))
      where
        nothing : (bytes : List ℕ) → bytes ++ [] ≡ bytes
        nothing bytes = grind (arith, common_steps)

    pub flat_map-part : (values : List T) (k : ℕ) → k < length values → All is_value values → (value : T) × PartOf (drop (k * size) (flat_map encoding values)) value
    flat_map-part [] k below are = absurd (omega arith)
    flat_map-part (value ∷ values) zero below are =
        let is = All-head is_value value values are in
        (value, record { is = is; bytes_are = ap (λ n. take size (drop n (flat_map encoding (value ∷ values)))) none ∙ take_at (encoding value) (flat_map encoding values) size (long value is) })
      where
        none : 0 * size ≡ 0
        none = omega arith
    flat_map-part (value ∷ values) (suc k) below are =
        let is = All-head is_value value values are in
        let part = flat_map-part values k (omega arith) (All-tail is_value value values are) in
        (part.0, subst (λ bytes. PartOf bytes part.0) (sym (past (k * size) (suc k * size) (suc-mul k size) (encoding value) (flat_map encoding values) (long value is))) part.1)
      where
        past : (m n : ℕ) → n ≡ m + size → (first rest : List ℕ) → length first ≡ size → drop n (first ++ rest) ≡ drop m rest
        past m n is first rest count = let at : n ≡ length first + m = omega arith in ap (λ n. drop n (first ++ rest)) at ∙ drop-append-add first rest m

    -- the bytes of the values so far, after a value is written behind them
    pub flat_map-write : (values : List T) (value : T) (i start k : ℕ) (out old bytes : List ℕ) → length values ≡ i → All is_value values → start ≡ i * size → out ≡ flat_map encoding values ++ drop start old → bytes ≡ encoding value
        → take start out ++ (bytes ++ drop k (drop start out)) ≡ flat_map encoding (values ++ value ∷ []) ++ drop (start + k) old
    flat_map-write values value i start k out old bytes count are at is of_value =
        let front = flat_map encoding values in
        let long_front : length front ≡ start = flat_map-len is_value encoding size long values are ∙ ap (λ n. n * size) count ∙ sym at in
        let before : take start out ≡ front = ap (take start) is ∙ take_at front (drop start old) start long_front in
        let behind : drop k (drop start out) ≡ drop (start + k) old = ap (λ out. drop k (drop start out)) is ∙ ap (drop k) (drop_at front (drop start old) start long_front) ∙ drop-drop k start old in
        (λ i. before i ++ (of_value i ++ behind i)) ∙ sym (append_assoc front (encoding value) (drop (start + k) old))
        ∙ ap (λ front. front ++ drop (start + k) old) (sym (flat_map-push values value))

    pub DecodesFront-more : (bytes : List ℕ) (count i : ℕ) (values more : List T) (value : T) → DecodesFront bytes count i values → length more ≡ count → take (i + 1) more ≡ take i values ++ value ∷ [] → PartOf (drop (i * size) bytes) value → DecodesFront bytes count (i + 1) more
    DecodesFront-more bytes count i values more value front long_more next part = record {
      long_values = long_more;
      are = subst (All is_value) (sym next) (All-push (take i values) value front.are part.is);
      bytes_are =
          ap (λ n. take n bytes) (times-more i size) ∙ take-add (i * size) size bytes
          ∙ (λ j. front.bytes_are j ++ part.bytes_are j) ∙ sym (flat_map-push (take i values) value) ∙ ap (flat_map encoding) (sym next);
    }

    -- bytes that are all decoded are those of these values alone
    pub DecodesFront-all : ((v w : T) → is_value v → is_value w → encoding v ≡ encoding w → v ≡ w) → (bytes : List ℕ) (count : ℕ) (values : List T) → length bytes ≡ count * size → DecodesFront bytes count count values
        → (others : List T) → (Some values ≡ Some others) ↔ (((length others ≡ count) × All is_value others) × (bytes ≡ flat_map encoding others))
    DecodesFront-all one bytes count values enough front others =
        let all : take count values ≡ values = take_all count values (omega (arith, front.long_values)) in
        let are = subst (All is_value) all front.are in
        let all_bytes : bytes ≡ flat_map encoding values = sym (take_all (count * size) bytes (omega arith)) ∙ front.bytes_are ∙ ap (flat_map encoding) all in (
          λ some. let same : values ≡ others = cc in
              subst (λ others. ((length others ≡ count) × All is_value others) × (bytes ≡ flat_map encoding others)) same ((front.long_values, are), all_bytes),
          λ is. ap Some (flat_map-one_value is_value encoding size long one values others are is.0.1 (front.long_values ∙ sym is.0.0) (sym all_bytes ∙ is.1)),
        )

    -- bytes of values have no part that is not decoded
    pub refused_part : (bytes : List ℕ) (count i : ℕ) → i < count → ((v : T) → None ≡ Some v ↔ (is_value v × (take size (drop (i * size) bytes) ≡ encoding v)))
        → (others : List T) → (None ≡ Some others) ↔ (((length others ≡ count) × All is_value others) × (bytes ≡ flat_map encoding others))
    refused_part bytes count i below decodes others = (
      λ none. absurd (cc),
      λ is.
          let part = flat_map-part others i (omega (arith, is.0.0)) is.0.1 in
          let here = rw (← is.1) at part.1 in
          let found : None ≡ Some part.0 = (decodes part.0).1 (here.is, here.bytes_are) in absurd (cc),
    )
