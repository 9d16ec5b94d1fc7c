-- Worked examples: what the definitions say of small lists.
use Rattle.std.proofs.Common.{◌≡◌, ℕ, zero, suc, ◌<◌, List, [], ◌∷◌, length, Some, None, true, slice_index, refl, inl, arith}
use Rattle.std.specs.List.{All, filter_map, slice_get}
use Rattle.std.proofs.lemmas.List.Elements.{All-nil, All-cons}
use Rattle.ix_atomic.specs.declared.byte_atomic.steps.plain.Act.{Act}
use Rattle.ix_atomic.specs.declared.byte_atomic.steps.plain.Act.TheVariants as act
use Rattle.ix_atomic.specs.declared.byte_atomic.steps.plain.Step.{Step}
use Rattle.ix_atomic.specs.declared.byte_atomic.steps.versioned.VersionedStep.{VersionedStep}
use Rattle.ix_atomic.specs.declared.byte_atomic.steps.versioned.VersionedStep.TheVariants.{Begin, Store, End, LoadVersion, LoadByte}
use Rattle.ix_atomic.specs.ByteActs.{byte_after}
use Rattle.ix_atomic.specs.PlainSteps.{IsLegal}
use Rattle.ix_atomic.specs.Operations.{Overlap}
use Rattle.ix_atomic.specs.inner.StepTests.{loads_agree}
use Rattle.ix_atomic.specs.VersionedSteps.{byte_act, write_of, AreWrites, version_after, IsLegalVersioned, IsVersionedRead}
use Rattle.ix_atomic.proofs.LegalActs.{AreLegal-passes}
use Rattle.ix_atomic.proofs.Versions.{HasVersion-steps_pass}
use Rattle.ix_atomic.proofs.VersionedReads.{versioned_read}

-- of two bytes 3 and 4 the first is replaced twice
abbrev replaced : List Act
replaced = act.Store 0 5 ∷ act.Store 0 7 ∷ []

byte_after-replaced : byte_after (3 ∷ 4 ∷ []) replaced 0 ≡ Some 7
byte_after-replaced = refl

byte_after-kept : byte_after (3 ∷ 4 ∷ []) replaced 1 ≡ Some 4
byte_after-kept = refl

byte_after-past : byte_after (3 ∷ 4 ∷ []) replaced 2 ≡ None
byte_after-past = refl

-- this operation's step
abbrev step : ℕ → Act → Step
step op act = record { op = op; act = act }

-- operation 2 loads a byte before operation 1 writes, and the other one after it: 0 and 6, which nobody wrote
abbrev torn : List Step
torn = step 2 (act.Load 0 0) ∷ step 1 (act.Store 0 5) ∷ step 1 (act.Store 1 6) ∷ step 2 (act.Load 1 6) ∷ []

places_of_two : (P : ℕ → Type 0) → P 0 → P 1 → (place : ℕ) → place < 2 → P place
places_of_two P first second zero below = first
places_of_two P first second (suc zero) below = second
places_of_two P first second (suc (suc place)) below = absurd (omega arith)

IsLegal-torn : IsLegal (0 ∷ 0 ∷ []) torn
IsLegal-torn = AreLegal-passes (0 ∷ 0 ∷ []) _ refl (places_of_two _ refl refl)

-- the two overlap, so that the law says nothing of this read
Overlap-torn : Overlap (0 ∷ 0 ∷ []) torn 1 2
Overlap-torn = (
  1,
  record { inside = omega arith; begun = (1, omega arith, (act.Store 0 5, refl)); goes_on = inl (2, omega arith, (act.Store 1 6, refl)) },
  record { inside = omega arith; begun = (0, omega arith, (act.Load 0 0, refl)); goes_on = inl (3, omega arith, (act.Load 1 6, refl)) },
)

All-two : (P : List ℕ → Type 0) (x y : List ℕ) → P x → P y → All P (x ∷ y ∷ [])
All-two P x y first second = All-cons P x (y ∷ []) first (All-cons P y [] second (All-nil P))

-- two writes of two bytes, of which the second is cut short
abbrev written : List VersionedStep
written = Begin ∷ Store 0 7 ∷ Store 1 8 ∷ End ∷ Begin ∷ Store 0 9 ∷ []

write_of-two : write_of (7 ∷ 8 ∷ []) ≡ Begin ∷ Store 0 7 ∷ Store 1 8 ∷ End ∷ []
write_of-two = refl

version_after-written : version_after written ≡ 3
version_after-written = refl

AreWrites-written : AreWrites 2 written ((7 ∷ 8 ∷ []) ∷ (9 ∷ 0 ∷ []) ∷ [])
AreWrites-written = record { sizes = All-two (λ value. length value ≡ 2) (7 ∷ 8 ∷ []) (9 ∷ 0 ∷ []) refl refl; missing = Store 1 0 ∷ End ∷ []; in_turn = refl }

-- reader 4 reads between the end of the write and its own second load of the version; reader 5 loads at any time
abbrev read : List VersionedStep
read = Begin ∷ Store 0 7 ∷ LoadByte 5 0 7 ∷ End ∷ LoadVersion 4 2 ∷ LoadVersion 5 2 ∷ LoadByte 4 0 7 ∷ LoadVersion 4 2 ∷ Begin ∷ []

AreWrites-read : AreWrites 1 read ((7 ∷ []) ∷ (1 ∷ []) ∷ [])
AreWrites-read = record { sizes = All-two (λ value. length value ≡ 1) (7 ∷ []) (1 ∷ []) refl refl; missing = Store 0 1 ∷ End ∷ []; in_turn = refl }

IsLegalVersioned-read : IsLegalVersioned (0 ∷ []) read
IsLegalVersioned-read = record {
  writes = ((7 ∷ []) ∷ (1 ∷ []) ∷ [], AreWrites-read);
  versions = HasVersion-steps_pass read refl;
  bytes = AreLegal-passes (0 ∷ []) _ refl one_place;
}
  where
    one_place : (place : ℕ) → place < 1 → loads_agree place (slice_index (0 ∷ []) place) (filter_map byte_act read) ≡ true
    one_place zero below = refl
    one_place (suc place) below = absurd (omega arith)

IsVersionedRead-read : IsVersionedRead 1 read 4 2 (7 ∷ []) 2
IsVersionedRead-read = record {
  before = Begin ∷ Store 0 7 ∷ LoadByte 5 0 7 ∷ End ∷ [];
  between = LoadVersion 5 2 ∷ LoadByte 4 0 7 ∷ [];
  after = Begin ∷ [];
  loads_versions = refl;
  loads_bytes = refl;
  whole = refl;
}

-- so the law says what is true of it: reader 4 has the value of the first write
slice_get-read : slice_get {X = List ℕ} ((0 ∷ []) ∷ (7 ∷ []) ∷ (1 ∷ []) ∷ []) 1 ≡ Some (7 ∷ [])
slice_get-read = versioned_read (0 ∷ []) read ((7 ∷ []) ∷ (1 ∷ []) ∷ []) 4 1 (7 ∷ []) IsLegalVersioned-read AreWrites-read IsVersionedRead-read
