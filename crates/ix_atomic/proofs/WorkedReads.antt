-- A worked example: a read after a write meets the premises of the law on plain reads.
use Rattle.std.proofs.Common.{◌≡◌, ℕ, zero, suc, ◌<◌, ◌≤◌, ◌⊎◌, List, [], ◌∷◌, true, slice_index, refl, sym, ap, subst, inl, inr, arith}
use Rattle.ix_atomic.specs.declared.byte_atomic.steps.plain.Act.TheVariants.{Store, Load}
use Rattle.ix_atomic.specs.declared.byte_atomic.steps.plain.Step.{Step}
use Rattle.ix_atomic.specs.PlainSteps.{IsLegal}
use Rattle.ix_atomic.specs.Operations.{Takes, IsStepOf, times_stored, times_loaded, IsWrite, IsRead, AreReadsAndWrites, Lasts, OverlapsNoWrite, IsBefore, IsLastWriteBefore}
use Rattle.ix_atomic.specs.inner.StepTests.{loads_agree}
use Rattle.ix_atomic.proofs.LegalActs.{AreLegal-passes}
use Rattle.ix_atomic.proofs.PlainReads.{after_last_write}

-- operation 1 writes a value of one byte, and then operation 2 reads it
abbrev first_value : List ℕ
first_value = 0 ∷ []

abbrev steps : List Step
steps = record { op = 1; act = Store 0 5 } ∷ record { op = 2; act = Load 0 5 } ∷ []

times_stored-1 : times_stored steps 1 0 ≡ 1
times_stored-1 = refl

times_loaded-2 : times_loaded steps 2 0 ≡ 1
times_loaded-2 = refl

place_0 : (P : ℕ → Type 0) → P 0 → (place : ℕ) → place < 1 → P place
place_0 P here zero below = here
place_0 P here (suc place) below = absurd (omega arith)

-- each index has one operation
operation_at : (op index : ℕ) → IsStepOf steps op index → ((op ≡ 1) × (index ≡ 0)) ⊎ ((op ≡ 2) × (index ≡ 1))
operation_at op zero step =
    let same : record { op = 1; act = Store 0 5 } ≡ (let s : Step = record { op = op; act = step.0 } in s) = cc in
    inl (sym (ap (λ (s : Step). s.op) same), refl)
operation_at op (suc zero) step =
    let same : record { op = 2; act = Load 0 5 } ≡ (let s : Step = record { op = op; act = step.0 } in s) = cc in
    inr (sym (ap (λ (s : Step). s.op) same), refl)
operation_at op (suc (suc index)) step = absurd (let e = step.1 in cc)

IsWrite-1 : IsWrite first_value steps 1
IsWrite-1 = record {
  has_step = (0, (Store 0 5, refl));
  stores = place_0 (λ place. times_stored steps 1 place ≤ 1) (let e = times_stored-1 in omega arith);
  loads = λ place. refl;
}

IsRead-2 : IsRead first_value steps 2
IsRead-2 = record {
  has_step = (1, (Load 0 5, refl));
  loads = place_0 (λ place. times_loaded steps 2 place ≤ 1) (let e = times_loaded-2 in omega arith);
  stores = λ place. refl;
}

no_write-2 : IsWrite first_value steps 2 → ⊥
no_write-2 write = let none = write.loads 0 in let one = times_loaded-2 in omega arith

-- the write lasts at index 0 alone, and the read at index 1
Lasts-1 : (index : ℕ) → Lasts first_value steps 1 index → index ≡ 0
Lasts-1 index lasts = elim lasts.goes_on [
  | inl on ↦ elim (operation_at 1 on.0 on.2) [
    | inl is ↦ omega (arith, is.1, on.1)
    | inr is ↦ absurd (let e = is.0 in omega arith)
  ]
  | inr unfinished ↦ absurd (place_0 (λ place. times_stored steps 1 place ≡ 0 → ⊥) (λ none. let one = times_stored-1 in omega arith) unfinished.misses.0 unfinished.misses.1 unfinished.misses.2)
]

Lasts-2 : (index : ℕ) → Lasts first_value steps 2 index → index ≡ 1
Lasts-2 index lasts = elim (operation_at 2 lasts.begun.0 lasts.begun.2) [
  | inl is ↦ absurd (let e = is.0 in omega arith)
  | inr is ↦ let inside : index < 2 = lasts.inside in omega (arith, is.1, lasts.begun.1)
]

IsBefore-1-2 : IsBefore first_value steps 1 2
IsBefore-1-2 i j first second = omega (arith, Lasts-1 i first, Lasts-2 j second)

writes : (op : ℕ) → IsWrite first_value steps op → op ≡ 1
writes op write = elim (operation_at op write.has_step.0 write.has_step.1) [
  | inl is ↦ is.0
  | inr is ↦ absurd (no_write-2 (subst (λ (o : ℕ). IsWrite first_value steps o) is.0 write))
]

OverlapsNoWrite-2 : OverlapsNoWrite first_value steps 2
OverlapsNoWrite-2 op write overlap =
    let lasts = subst (λ (o : ℕ). Lasts first_value steps o overlap.0) (writes op write) overlap.1 in
    absurd (omega (arith, Lasts-1 overlap.0 lasts, Lasts-2 overlap.0 overlap.2))

OverlapsNoWrite-1 : OverlapsNoWrite first_value steps 1
OverlapsNoWrite-1 op write overlap = writes op write

IsLastWriteBefore-1-2 : IsLastWriteBefore first_value steps 1 2
IsLastWriteBefore-1-2 = record {
  is_write = IsWrite-1;
  before = IsBefore-1-2;
  last = λ other write after before.
      let itself = subst (λ (o : ℕ). IsBefore first_value steps 1 o) (writes other write) after in
      let lasts : Lasts first_value steps 1 0 = record { inside = omega arith; begun = (0, omega arith, (Store 0 5, refl)); goes_on = inl (0, omega arith, (Store 0 5, refl)) } in
      let wrong = itself 0 0 lasts lasts in
      omega arith;
}

AreReadsAndWrites-steps : AreReadsAndWrites first_value steps
AreReadsAndWrites-steps op index step = elim (operation_at op index step) [
  | inl is ↦ inr (subst (λ (o : ℕ). IsWrite first_value steps o) (sym is.0) IsWrite-1)
  | inr is ↦ inl (subst (λ (o : ℕ). IsRead first_value steps o) (sym is.0) IsRead-2)
]

IsLegal-steps : IsLegal first_value steps
IsLegal-steps = AreLegal-passes first_value (Store 0 5 ∷ Load 0 5 ∷ []) refl (place_0 (λ place. loads_agree place (slice_index first_value place) (Store 0 5 ∷ Load 0 5 ∷ []) ≡ true) refl)

-- so the read has the byte that the write stored
Takes-write : Takes steps 1 (Store 0 5)
Takes-write =
    after_last_write first_value steps 2 1 0 5 IsLegal-steps AreReadsAndWrites-steps
    (record { read = IsRead-2; whole = place_0 (λ place. times_loaded steps 2 place ≡ 1) refl })
    OverlapsNoWrite-2 IsLastWriteBefore-1-2 OverlapsNoWrite-1 (1, refl)
