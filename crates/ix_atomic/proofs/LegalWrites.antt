-- The test over the writer's steps tells whether they are whole writes in turn.
use Rattle.std.proofs.Common.{◌≡◌, ℕ, ◌+◌, ◌-◌, ◌≤◌, List, [], ◌∷◌, ◌++◌, length, replicate, Option, Some, None, true, refl, sym, ap, ◌∙◌, arith, lt-ltb, ltb-true, eq-eqb, eqb-true}
use Rattle.std.specs.List.{All, filter, flat_map}
use Rattle.std.proofs.lemmas.List.{length-replicate}
use Rattle.std.proofs.lemmas.List.Elements.{All-nil, All-cons, All-head, All-tail}
use Rattle.std.proofs.lemmas.Bool.{and_parts, and_from}
use Rattle.ix_atomic.specs.declared.byte_atomic.steps.versioned.VersionedStep.{VersionedStep}
use Rattle.ix_atomic.specs.declared.byte_atomic.steps.versioned.VersionedStep.TheVariants.{Begin, Store, End, LoadVersion, LoadByte}
use Rattle.ix_atomic.specs.VersionedSteps.{is_of_writer, byte_steps, write_of, AreWrites}
use Rattle.ix_atomic.specs.inner.StepTests.{are_in_turn}

-- what is left of the write in progress, which has stored so many bytes and these are to come
abbrev pub rest_of : Option ℕ → List ℕ → List VersionedStep
rest_of None bytes = []
rest_of (Some stored) bytes = byte_steps Store stored bytes ++ End ∷ []

-- the bytes to come complete the value
abbrev pub Completes : ℕ → Option ℕ → List ℕ → Type 0
Completes len None bytes = Unit {0}
Completes len (Some stored) bytes = stored + length bytes ≡ len

abbrev IsOfLength : ℕ → List ℕ → Type 0
IsOfLength len value = length value ≡ len

-- the writer's steps are the rest of the write in progress, and then writes, the last of which may be cut short
pub record GoesOn (len : ℕ) (stored : Option ℕ) (steps : List VersionedStep) : Type 0 where
  pub bytes : List ℕ
  pub values : List (List ℕ)
  pub missing : List VersionedStep
  pub completes : Completes len stored bytes
  pub sizes : All (IsOfLength len) values
  pub in_turn : filter is_of_writer steps ++ missing ≡ rest_of stored bytes ++ flat_map write_of values

abbrev IsWithin : ℕ → Option ℕ → Type 0
IsWithin len None = Unit {0}
IsWithin len (Some stored) = stored ≤ len

goes_on : (len : ℕ) (stored : Option ℕ) (steps : List VersionedStep) → IsWithin len stored → are_in_turn len stored steps ≡ true → GoesOn len stored steps
goes_on len None [] within passes = record { bytes = []; values = []; missing = []; completes = tt; sizes = All-nil (IsOfLength len); in_turn = refl }
goes_on len (Some stored) [] within passes =
    let zeros : List ℕ = replicate (len - stored) 0 in
    let count : length zeros ≡ len - stored = length-replicate _ _ in
    record { bytes = zeros; values = []; missing = rest_of (Some stored) zeros ++ []; completes = omega arith; sizes = All-nil (IsOfLength len); in_turn = refl }
goes_on len None (Begin ∷ steps) within passes =
    let r = goes_on len (Some 0) steps (omega arith) passes in
    record { bytes = []; values = r.bytes ∷ r.values; missing = r.missing; completes = tt; sizes = All-cons (IsOfLength len) r.bytes r.values (omega (arith, r.completes)) r.sizes; in_turn = ap (λ l. Begin ∷ l) r.in_turn }
goes_on len (Some stored) (Begin ∷ steps) within passes = absurd (cc)
goes_on len None (Store place byte ∷ steps) within passes = absurd (cc)
goes_on len (Some stored) (Store place byte ∷ steps) within passes =
    let parts = and_parts _ _ passes in
    let tests = and_parts _ _ parts.0 in
    let here : stored ≡ place = eqb-true _ _ tests.0 in
    let inside = ltb-true place len tests.1 in
    let r = goes_on len (Some (place + 1)) steps (omega arith) parts.1 in
    record { bytes = byte ∷ r.bytes; values = r.values; missing = r.missing; completes = omega (arith, r.completes); sizes = r.sizes; in_turn = ap (λ l. Store place byte ∷ l) r.in_turn ∙ ap (λ p. Store p byte ∷ ((byte_steps Store (p + 1) r.bytes ++ End ∷ []) ++ flat_map write_of r.values)) (sym here) }
goes_on len None (End ∷ steps) within passes = absurd (cc)
goes_on len (Some stored) (End ∷ steps) within passes =
    let parts = and_parts _ _ passes in
    let whole : stored ≡ len = eqb-true _ _ parts.0 in
    let r = goes_on len None steps tt parts.1 in
    record { bytes = []; values = r.values; missing = r.missing; completes = omega arith; sizes = r.sizes; in_turn = ap (λ l. End ∷ l) r.in_turn }
goes_on len stored (LoadVersion reader version ∷ steps) within passes =
    let r = goes_on len stored steps within passes in
    record { bytes = r.bytes; values = r.values; missing = r.missing; completes = r.completes; sizes = r.sizes; in_turn = r.in_turn }
goes_on len stored (LoadByte reader place byte ∷ steps) within passes =
    let r = goes_on len stored steps within passes in
    record { bytes = r.bytes; values = r.values; missing = r.missing; completes = r.completes; sizes = r.sizes; in_turn = r.in_turn }

pub AreWrites-steps_pass : (len : ℕ) (steps : List VersionedStep) → are_in_turn len None steps ≡ true → (values : List (List ℕ)) × AreWrites len steps values
AreWrites-steps_pass len steps passes = let r = goes_on len None steps tt passes in (r.values, record { sizes = r.sizes; missing = r.missing; in_turn = r.in_turn })

passes_on : (len : ℕ) (stored : Option ℕ) (steps : List VersionedStep) (bytes : List ℕ) (values : List (List ℕ)) (missing : List VersionedStep)
    → Completes len stored bytes → All (IsOfLength len) values → filter is_of_writer steps ++ missing ≡ rest_of stored bytes ++ flat_map write_of values
    → are_in_turn len stored steps ≡ true
passes_on len stored [] bytes values missing completes sizes e = refl
passes_on len None (Begin ∷ steps) bytes [] missing completes sizes e = absurd (cc)
passes_on len None (Begin ∷ steps) bytes (value ∷ values) missing completes sizes e = passes_on len (Some 0) steps value values missing (omega (arith, All-head (IsOfLength len) value values sizes)) (All-tail (IsOfLength len) value values sizes) (cc)
passes_on len (Some stored) (Begin ∷ steps) [] values missing completes sizes e = absurd (cc)
passes_on len (Some stored) (Begin ∷ steps) (b ∷ bytes) values missing completes sizes e = absurd (cc)
passes_on len None (Store place byte ∷ steps) bytes [] missing completes sizes e = absurd (cc)
passes_on len None (Store place byte ∷ steps) bytes (value ∷ values) missing completes sizes e = absurd (cc)
passes_on len (Some stored) (Store place byte ∷ steps) [] values missing completes sizes e = absurd (cc)
passes_on len (Some stored) (Store place byte ∷ steps) (b ∷ bytes) values missing completes sizes e =
    let here : stored ≡ place = cc in
    let rest : filter is_of_writer steps ++ missing ≡ (byte_steps Store (stored + 1) bytes ++ End ∷ []) ++ flat_map write_of values = cc in
    let on : filter is_of_writer steps ++ missing ≡ (byte_steps Store (place + 1) bytes ++ End ∷ []) ++ flat_map write_of values = cc in
    and_from _ _ (and_from _ _ (eq-eqb _ _ here) (lt-ltb _ _ (omega arith)))
    (passes_on len (Some (place + 1)) steps bytes values missing (omega arith) sizes on)
passes_on len None (End ∷ steps) bytes [] missing completes sizes e = absurd (cc)
passes_on len None (End ∷ steps) bytes (value ∷ values) missing completes sizes e = absurd (cc)
passes_on len (Some stored) (End ∷ steps) [] values missing completes sizes e = and_from _ _ (eq-eqb _ _ (omega arith)) (passes_on len None steps [] values missing tt sizes (cc))
passes_on len (Some stored) (End ∷ steps) (b ∷ bytes) values missing completes sizes e = absurd (cc)
passes_on len stored (LoadVersion reader version ∷ steps) bytes values missing completes sizes e = passes_on len stored steps bytes values missing completes sizes e
passes_on len stored (LoadByte reader place byte ∷ steps) bytes values missing completes sizes e = passes_on len stored steps bytes values missing completes sizes e

pub are_in_turn-writes : (len : ℕ) (steps : List VersionedStep) (values : List (List ℕ)) → AreWrites len steps values → are_in_turn len None steps ≡ true
are_in_turn-writes len steps values w = passes_on len None steps [] values w.missing tt w.sizes w.in_turn
