-- A temperature is decoded from its number.
use Rattle.std.proofs.Common.{ℕ, ◌≡◌, ◌↔◌, ◌<◌, ◌^◌, List, refl, sym, subst, ◌∙◌, Option, Some, None}
use Rattle.std.specs.Int.{w64, to_le_bytes}
use Rattle.examples.specs.declared.temperature.Temperature.{Temperature}
use Rattle.examples.proofs.temperature.TemperatureAtomicCopy.decode.Goals as goal

abbrev Encodes : List ℕ → ℕ → Type 0
Encodes bytes n = (n < 2 ^ 64) × (bytes ≡ to_le_bytes w64 n)

-- the temperature of a number, if there is one
abbrev temperature_of : Option ℕ → Option Temperature
temperature_of (Some n) = Some (record { millikelvin = n })
temperature_of None = None

decoded : (bytes : List ℕ) (number : Option ℕ) → ((n : ℕ) → (number ≡ Some n) ↔ Encodes bytes n) → (t : Temperature) → temperature_of number ≡ Some t → Encodes bytes t.millikelvin
decoded bytes (Some n) decodes t is =
    let made : Temperature = record { millikelvin = n } in
    let same : made ≡ t = cc in
    let P : Temperature → Type 0 = λ t. Encodes bytes t.millikelvin in
    subst P same ((decodes n).0 refl)
decoded bytes None decodes t is = absurd (cc)

decoding : (bytes : List ℕ) (number : Option ℕ) (o : Option Temperature) → ((n : ℕ) → (number ≡ Some n) ↔ Encodes bytes n) → o ≡ temperature_of number → (t : Temperature) → (o ≡ Some t) ↔ Encodes bytes t.millikelvin
decoding bytes number o decodes made t = (
  λ is. decoded bytes number decodes t (sym made ∙ is),
  λ is.
      let held : number ≡ Some t.millikelvin = (decodes t.millikelvin).1 is in
      made ∙ (λ i. temperature_of (held i)),
)

pub returns-in-Some : goal.returns-in-Some
returns-in-Some c = decoding c.args.bytes.now c.decode.result _ c.decode.ensures (rw c.in-Some.is refl)

pub returns-in-None : goal.returns-in-None
returns-in-None c = decoding c.args.bytes.now c.decode.result _ c.decode.ensures (rw c.in-None.is refl)
