-- What steps on several bytes do to a stage.
use Rattle.std.proofs.Common.{◌≡◌, ℕ, ◌+◌, ◌-◌, ◌*◌, min, List, [], ◌∷◌, ◌++◌, refl, sym, ap, ◌∙◌, arith, append-nil, append_assoc}
use Rattle.ix_atomic.specs.declared.sequenced.rule.Stage.{Stage}
use Rattle.ix_atomic.specs.declared.sequenced.rule.Stage.TheVariants.{Idle, Reading, Writing}
use Rattle.ix_atomic.specs.inner.SequencedRule.{parity}
use Rattle.ix_atomic.specs.inner.SequencedSteps.{stage_byte, stage_bytes, bytes_at}

parity-stage_byte : (byte : ℕ) (stage : Stage) → parity (stage_byte byte stage) ≡ parity stage
parity-stage_byte byte Idle = refl
parity-stage_byte byte (Reading first loaded) = refl
parity-stage_byte byte (Writing stored) = refl

pub parity-stage_bytes : (bytes : List ℕ) (stage : Stage) → parity (stage_bytes bytes stage) ≡ parity stage
parity-stage_bytes [] stage = refl
parity-stage_bytes (byte ∷ bytes) stage = parity-stage_bytes bytes (stage_byte byte stage) ∙ parity-stage_byte byte stage

pub stage_bytes-Reading : (bytes : List ℕ) (first : ℕ) (loaded : List ℕ) → stage_bytes bytes (Reading first loaded) ≡ Reading first (loaded ++ bytes)
stage_bytes-Reading [] first loaded = ap (Reading first) (sym (append-nil loaded))
stage_bytes-Reading (byte ∷ bytes) first loaded = stage_bytes-Reading bytes first (loaded ++ byte ∷ []) ∙ ap (Reading first) (append_assoc loaded (byte ∷ []) bytes)

pub stage_bytes-Writing : (bytes stored : List ℕ) → stage_bytes bytes (Writing stored) ≡ Writing (stored ++ bytes)
stage_bytes-Writing [] stored = ap Writing (sym (append-nil stored))
stage_bytes-Writing (byte ∷ bytes) stored = stage_bytes-Writing bytes (stored ++ byte ∷ []) ∙ ap Writing (append_assoc stored (byte ∷ []) bytes)

-- word 0 of the table has no bytes
pub bytes_at-next : (size index : ℕ) → bytes_at size (index + 1) ≡ min 8 (size - 8 * index)
bytes_at-next size index = ap (λ n. min 8 (size - 8 * n)) (omega arith)
