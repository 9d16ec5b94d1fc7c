-- A Foo is decoded from its two parts.
use Rattle.std.proofs.Common.{ℕ, ◌≡◌, ◌↔◌, ◌<◌, ◌^◌, List, [], ◌∷◌, ◌++◌, take, drop, refl, ap, sym, subst, ◌∙◌, Option, Some, None}
use Rattle.std.specs.Int.{w64, to_le_bytes}
use Rattle.std.proofs.lemmas.List.{take-append-drop}
use Rattle.tests_atomic_cells.specs.declared.foo.Foo.{Foo}
use Rattle.tests_atomic_cells.proofs.foo.FooAtomicCopy.decode.Goals as goal

-- the Foo of both numbers, if there are both
abbrev foo_of : Option ℕ → Option ℕ → Option Foo
foo_of (Some bar) (Some baz) = Some (record { bar = bar; baz = baz })
foo_of (Some bar) None = None
foo_of None baz = None

abbrev IsDecodedAs : (ℕ → List ℕ) → ℕ → List ℕ → Option ℕ → Type 0
IsDecodedAs encoding bound bytes decoded = (n : ℕ) → (decoded ≡ Some n) ↔ ((n < bound) × (bytes ≡ encoding n))

abbrev EncodesFoo : List ℕ → Foo → Type 0
EncodesFoo bytes foo = ((foo.bar < 2 ^ 8) × (foo.baz < 2 ^ 64)) × (bytes ≡ foo.bar ∷ to_le_bytes w64 foo.baz)

decoded_foo : (bytes : List ℕ) (bar baz : Option ℕ) → IsDecodedAs (λ n. n ∷ []) (2 ^ 8) (take 1 bytes) bar → IsDecodedAs (to_le_bytes w64) (2 ^ 64) (drop 1 bytes) baz → (foo : Foo) → foo_of bar baz ≡ Some foo → EncodesFoo bytes foo
decoded_foo bytes (Some bar) (Some baz) first rest foo is =
    let pair : Foo = record { bar = bar; baz = baz } in
    let same : pair ≡ foo = cc in
    let front = (first bar).0 refl in
    let back = (rest baz).0 refl in
    let parts : bytes ≡ (bar ∷ []) ++ to_le_bytes w64 baz =
    sym (take-append-drop 1 bytes) ∙ (λ i. front.1 i ++ back.1 i) in
    let P : Foo → Type 0 = λ foo. EncodesFoo bytes foo in
    subst P same ((front.0, back.0), parts)
decoded_foo bytes (Some bar) None first rest foo is = absurd (cc)
decoded_foo bytes None baz first rest foo is = absurd (cc)

foo_decoding : (bytes : List ℕ) (bar baz : Option ℕ) (o : Option Foo) → IsDecodedAs (λ n. n ∷ []) (2 ^ 8) (take 1 bytes) bar → IsDecodedAs (to_le_bytes w64) (2 ^ 64) (drop 1 bytes) baz → o ≡ foo_of bar baz → (foo : Foo) → (o ≡ Some foo) ↔ EncodesFoo bytes foo
foo_decoding bytes bar baz o first rest made foo = (
  λ is. decoded_foo bytes bar baz first rest foo (sym made ∙ is),
  λ is.
      let front : bar ≡ Some foo.bar = (first foo.bar).1 (is.0.0, ap (take 1) is.1) in
      let back : baz ≡ Some foo.baz = (rest foo.baz).1 (is.0.1, ap (drop 1) is.1) in
      made ∙ (λ i. foo_of (front i) (back i)),
)

pub returns-in-Some-Some : goal.returns-in-Some-Some
returns-in-Some-Some c =
    foo_decoding c.args.bytes.now c.decode.result c.decode-2.result _
    (rw (sym c.split_at.ensures.front) c.decode.ensures) (rw (sym c.split_at.ensures.back) c.decode-2.ensures)
    (rw (c.in-Some-Some.is-0, c.in-Some-Some.is-1) refl)

pub returns-in_default : goal.returns-in_default
returns-in_default c =
    foo_decoding c.args.bytes.now c.decode.result c.decode-2.result _
    (rw (sym c.split_at.ensures.front) c.decode.ensures) (rw (sym c.split_at.ensures.back) c.decode-2.ensures)
    (rw (c.in_default.is-0, c.in_default.is-1) refl)

pub returns-in_default-2 : goal.returns-in_default-2
returns-in_default-2 c =
    foo_decoding c.args.bytes.now c.decode.result c.decode-2.result _
    (rw (sym c.split_at.ensures.front) c.decode.ensures) (rw (sym c.split_at.ensures.back) c.decode-2.ensures)
    (rw c.in_default.is-0 refl)
