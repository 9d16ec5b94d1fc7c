-- The laws of encodings, of values and bytes that belong together.
use Rattle.std.proofs.Common.{◌≡◌, ℕ, List, length, sym, ap, ◌∙◌}
use Rattle.ix_atomic.specs.inner.SequencedRule.{Encodes}

module _ {T : Type 0} (is_value : T → Type 0) (encoding : T → List ℕ) where
  pub Encodes-length : (size : ℕ) → ((v : T) → is_value v → length (encoding v) ≡ size) → (v : T) (bytes : List ℕ) → Encodes is_value encoding v bytes → length bytes ≡ size
  Encodes-length size law v bytes encodes = ap length encodes.1 ∙ law v encodes.0

  pub Encodes-one_value : ((v w : T) → is_value v → is_value w → encoding v ≡ encoding w → v ≡ w) → (v w : T) (bytes : List ℕ) → Encodes is_value encoding v bytes → Encodes is_value encoding w bytes → v ≡ w
  Encodes-one_value law v w bytes of_v of_w = law v w of_v.0 of_w.0 (sym of_v.1 ∙ of_w.1)
