-- What a reader has loaded between two loads of one even version.
use Rattle.std.proofs.Common.{◌≡◌, ℕ, zero, suc, ◌+◌, ◌*◌, ◌<◌, ◌≤◌, List, [], ◌∷◌, ◌++◌, length, take, get_or, Some, None, cond, refl, sym, ap, ap₂, ◌∙◌, inl, inr, arith, ne_eqb, eq-eqb, append_assoc}
use Rattle.std.specs.Option.{option_to_list}
use Rattle.std.specs.List.{All, filter, filter_map, flat_map, cons_option, last_or, slice_get}
use Rattle.std.proofs.lemmas.List.{append-nil, append_cancel_left, ext_get_or}
use Rattle.std.proofs.lemmas.List.Elements.{All-head, All-tail, filter-append, filter_map-append}
use Rattle.std.proofs.lemmas.Option.{slice_get-get_or, slice_get_past, slice_get_cases, get_or_from_slice_get}
use Rattle.ix_atomic.specs.declared.byte_atomic.steps.plain.Act.{Act}
use Rattle.ix_atomic.specs.declared.byte_atomic.steps.plain.Act.TheVariants as act
use Rattle.ix_atomic.specs.declared.byte_atomic.steps.versioned.VersionedStep.{VersionedStep}
use Rattle.ix_atomic.specs.declared.byte_atomic.steps.versioned.VersionedStep.TheVariants.{Begin, Store, End, LoadVersion, LoadByte}
use Rattle.ix_atomic.specs.ByteActs.{stored_at, byte_after}
use Rattle.ix_atomic.specs.VersionedSteps.{byte_act, is_of_writer, is_of_reader, byte_steps, write_of, AreWrites, version_after, IsLegalVersioned, IsVersionedRead}
use Rattle.ix_atomic.proofs.Splits.{split_append, split_filter, front_of_none}
use Rattle.ix_atomic.proofs.LastStored.{byte_after-append}
use Rattle.ix_atomic.proofs.Versions.{version_after-cons, version_after-append, version_after-filter}

-- what steps do to the bytes
abbrev acts : List VersionedStep → List Act
acts steps = filter_map byte_act steps

-- the values that steps store at a place
abbrev stores : ℕ → List VersionedStep → List ℕ
stores place steps = filter_map (stored_at place) (acts steps)

-- the versions in and after a write
version_after-rest : (place : ℕ) (bytes : List ℕ) → version_after (byte_steps Store place bytes ++ End ∷ []) ≡ 1
version_after-rest place [] = let a = version_after-cons End [] in omega arith
version_after-rest place (byte ∷ bytes) = let a = version_after-cons (Store place byte) (byte_steps Store (place + 1) bytes ++ End ∷ []) in omega (arith, version_after-rest (place + 1) bytes)

version_after-write : (value : List ℕ) → version_after (write_of value) ≡ 2
version_after-write value = let a = version_after-cons Begin (byte_steps Store 0 value ++ End ∷ []) in omega (arith, version_after-rest 0 value)

version_after-stores : (place : ℕ) (bytes : List ℕ) (front : List VersionedStep) (step : VersionedStep) (back : List VersionedStep) → byte_steps Store place bytes ++ End ∷ [] ≡ front ++ step ∷ back → version_after front ≡ 0
version_after-stores place bytes [] step back e = refl
version_after-stores place [] (x ∷ []) step back e = absurd (cc)
version_after-stores place [] (x ∷ y ∷ front) step back e = absurd (cc)
version_after-stores place (byte ∷ bytes) (x ∷ front) step back e =
    let same : x ≡ Store place byte = cc in
    let rest : byte_steps Store (place + 1) bytes ++ End ∷ [] ≡ front ++ step ∷ back = cc in
    let a : version_after (x ∷ front) ≡ version_after (Store place byte ∷ front) = ap (λ s. version_after (s ∷ front)) same in
    let b = version_after-cons (Store place byte) front in
    omega (arith, version_after-stores (place + 1) bytes front step back rest)

version_after-begun : (value : List ℕ) (x : VersionedStep) (front : List VersionedStep) (step : VersionedStep) (back : List VersionedStep) → write_of value ≡ (x ∷ front) ++ step ∷ back → version_after (x ∷ front) ≡ 1
version_after-begun value x front step back e =
    let same : x ≡ Begin = cc in
    let rest : byte_steps Store 0 value ++ End ∷ [] ≡ front ++ step ∷ back = cc in
    let a : version_after (x ∷ front) ≡ version_after (Begin ∷ front) = ap (λ s. version_after (s ∷ front)) same in
    let b = version_after-cons Begin front in
    omega (arith, version_after-stores 0 value front step back rest)

-- at an even version the writer's steps are the first writes, as many as this
abbrev AreFirstWrites : List VersionedStep → ℕ → List (List ℕ) → Type 0
AreFirstWrites steps count values = (steps ≡ flat_map write_of (take count values)) × (count ≤ length values)

cut_short : (front : List VersionedStep) (value : List ℕ) (values : List (List ℕ)) (k : ℕ) (step : VersionedStep) (back : List VersionedStep) → write_of value ≡ front ++ step ∷ back → version_after front ≡ 2 * k → AreFirstWrites front k (value ∷ values)
cut_short [] value values zero step back e even = (refl, omega arith)
cut_short [] value values (suc k) step back e even = absurd (omega arith)
cut_short (x ∷ front) value values k step back e even = let odd = version_after-begun value x front step back e in absurd (omega arith)

one_more : (front rest : List VersionedStep) (value : List ℕ) (values : List (List ℕ)) (k : ℕ) → front ≡ write_of value ++ rest → version_after front ≡ 2 * k → ((j : ℕ) → version_after rest ≡ 2 * j → AreFirstWrites rest j values) → AreFirstWrites front k (value ∷ values)
one_more front rest value values k e even later =
    let two = version_after-write value in
    let all : version_after front ≡ version_after (write_of value) + version_after rest = ap version_after e ∙ version_after-append (write_of value) rest in
    by_count k (omega arith)
  where
    by_count : (k : ℕ) → 2 + version_after rest ≡ 2 * k → AreFirstWrites front k (value ∷ values)
    by_count zero more = absurd (omega arith)
    by_count (suc j) more = let h = later j (omega arith) in (e ∙ ap (λ l. write_of value ++ l) h.0, omega (arith, h.1))

first_writes : (front back : List VersionedStep) (values : List (List ℕ)) (k : ℕ) → front ++ back ≡ flat_map write_of values → version_after front ≡ 2 * k → AreFirstWrites front k values
first_writes [] back [] zero e even = (refl, omega arith)
first_writes [] back [] (suc k) e even = absurd (omega arith)
first_writes (x ∷ front) back [] k e even = absurd (cc)
first_writes front back (value ∷ values) k e even = elim (split_append front back (write_of value) (flat_map write_of values) e) [
  | inl h ↦ cut_short front value values k h.0 h.1 h.2 even
  | inr h ↦ one_more front h.0 value values k h.1 even (λ j more. first_writes h.0 back values j h.2 more)
]

-- so they are at each place of the list where the version is even
writes_before : (size : ℕ) (steps : List VersionedStep) (values : List (List ℕ)) (k : ℕ) (front back : List VersionedStep) → steps ≡ front ++ back → AreWrites size steps values → 2 * k ≡ version_after front → AreFirstWrites (filter is_of_writer front) k values
writes_before size steps values k front back e writes even =
    first_writes (filter is_of_writer front) (filter is_of_writer back ++ writes.missing) values k
    (sym (append_assoc (filter is_of_writer front) (filter is_of_writer back) writes.missing)
    ∙ (ap (λ l. l ++ writes.missing) (sym (filter-append is_of_writer front back) ∙ ap (filter is_of_writer) (sym e)) ∙ writes.in_turn))
    (version_after-filter front ∙ sym even)

-- the bytes after whole writes
stores-below : (place start : ℕ) (bytes : List ℕ) → place < start → stores place (byte_steps Store start bytes ++ End ∷ []) ≡ []
stores-below place start [] below = refl
stores-below place start (byte ∷ bytes) below =
    ap (λ b. cons_option (cond b (Some byte) None) (stores place (byte_steps Store (start + 1) bytes ++ End ∷ []))) (ne_eqb start place (λ e. omega arith))
    ∙ stores-below place (start + 1) bytes (omega arith)

stores-bytes : (start i : ℕ) (bytes : List ℕ) → stores (start + i) (byte_steps Store start bytes ++ End ∷ []) ≡ option_to_list (slice_get bytes i)
stores-bytes start i [] = refl
stores-bytes start zero (byte ∷ bytes) =
    ap (λ b. cons_option (cond b (Some byte) None) (stores (start + 0) (byte_steps Store (start + 1) bytes ++ End ∷ []))) (eq-eqb start (start + 0) (omega arith))
    ∙ ap (λ l. byte ∷ l) (stores-below (start + 0) (start + 1) bytes (omega arith))
stores-bytes start (suc i) (byte ∷ bytes) =
    let same : start + suc i ≡ (start + 1) + i = omega arith in
    ap (λ b. cons_option (cond b (Some byte) None) (stores (start + suc i) (byte_steps Store (start + 1) bytes ++ End ∷ []))) (ne_eqb start (start + suc i) (λ e. omega arith))
    ∙ (ap (λ p. stores p (byte_steps Store (start + 1) bytes ++ End ∷ [])) same ∙ stores-bytes (start + 1) i bytes)

replaces : (old new : List ℕ) (i : ℕ) → length new ≡ length old → last_or (slice_get old i) (option_to_list (slice_get new i)) ≡ slice_get new i
replaces old new i same = elim (slice_get_cases new i).1 [
  | inl h ↦ ap (λ o. last_or (slice_get old i) (option_to_list o)) h.2 ∙ sym h.2
  | inr h ↦ ap (λ o. last_or (slice_get old i) (option_to_list o)) h.1 ∙ (slice_get_past old i (omega (arith, h.0)) ∙ sym h.1)
]

byte_after-write : (first value : List ℕ) (more : List VersionedStep) (i : ℕ) → length value ≡ length first → byte_after first (acts (write_of value ++ more)) i ≡ byte_after value (acts more) i
byte_after-write first value more i same =
    let none : i ≡ 0 + i = omega arith in
    ap (λ l. byte_after first l i) (filter_map-append byte_act (byte_steps Store 0 value ++ End ∷ []) more)
    ∙ (byte_after-append first (acts (byte_steps Store 0 value ++ End ∷ [])) (acts more) i
    ∙ ap (λ o. last_or o (stores i more))
    (ap (last_or (slice_get first i)) (ap (λ p. stores p (byte_steps Store 0 value ++ End ∷ [])) none ∙ stores-bytes 0 i value) ∙ replaces first value i same))

-- the value after these many writes
record ValueAfter (size : ℕ) (first : List ℕ) (values : List (List ℕ)) (count : ℕ) : Type 0 where
  pub value : List ℕ
  pub stands : slice_get (first ∷ values) count ≡ Some value
  pub whole : length value ≡ size
  pub bytes : (i : ℕ) → byte_after first (acts (flat_map write_of (take count values))) i ≡ slice_get value i

value_after : (size : ℕ) (first : List ℕ) (values : List (List ℕ)) (count : ℕ) → length first ≡ size → All (λ value. length value ≡ size) values → count ≤ length values → ValueAfter size first values count
value_after size first values zero whole sizes inside = record { value = first; stands = refl; whole = whole; bytes = λ i. refl }
value_after size first [] (suc count) whole sizes inside = absurd (omega arith)
value_after size first (value ∷ values) (suc count) whole sizes inside =
    let size_here = All-head (λ v. length v ≡ size) value values sizes in
    let h = value_after size value values count size_here (All-tail (λ v. length v ≡ size) value values sizes) (omega arith) in
    record {
      value = h.value;
      stands = h.stands;
      whole = h.whole;
      bytes = λ i. byte_after-write first value (flat_map write_of (take count values)) i (size_here ∙ sym whole) ∙ h.bytes i;
    }

-- only the writer stores
stores-filter : (place : ℕ) (steps : List VersionedStep) → stores place (filter is_of_writer steps) ≡ stores place steps
stores-filter place [] = refl
stores-filter place (Begin ∷ steps) = stores-filter place steps
stores-filter place (Store at byte ∷ steps) = ap (cons_option (stored_at place (act.Store at byte))) (stores-filter place steps)
stores-filter place (End ∷ steps) = stores-filter place steps
stores-filter place (LoadVersion reader version ∷ steps) = stores-filter place steps
stores-filter place (LoadByte reader at byte ∷ steps) = stores-filter place steps

-- where a reader's load stands
slice_get-byte_steps : (step : ℕ → ℕ → VersionedStep) (start : ℕ) (bytes : List ℕ) (i byte : ℕ) → slice_get bytes i ≡ Some byte → slice_get (byte_steps step start bytes) i ≡ Some (step (start + i) byte)
slice_get-byte_steps step start [] i byte e = absurd (cc)
slice_get-byte_steps step start (b ∷ bytes) zero byte e =
    let same : b ≡ byte = cc in
    let none : start ≡ start + 0 = omega arith in
    ap Some (ap₂ step none same)
slice_get-byte_steps step start (b ∷ bytes) (suc i) byte e =
    let same : (start + 1) + i ≡ start + suc i = omega arith in
    slice_get-byte_steps step (start + 1) bytes i byte e ∙ ap (λ p. Some (step p byte)) same

pub versioned_read : (first : List ℕ) (steps : List VersionedStep) (values : List (List ℕ)) (reader k : ℕ) (bytes : List ℕ) → IsLegalVersioned first steps → AreWrites (length first) steps values → IsVersionedRead (length first) steps reader (2 * k) bytes (2 * k) → slice_get (first ∷ values) k ≡ Some bytes
versioned_read first steps values reader k bytes legal writes read =
    value.stands ∙ ap Some (sym (ext_get_or 0 bytes value.value (read.whole ∙ sym value.whole) (λ i below. sym (get_or_from_slice_get value.value i (get_or bytes i 0) 0 (loaded i (get_or bytes i 0) (slice_get-get_or bytes i 0 below))))))
  where
    load : VersionedStep
    load = LoadVersion reader (2 * k)

    -- the steps before the second load of the version
    until : List VersionedStep
    until = read.before ++ load ∷ read.between

    begins : steps ≡ read.before ++ load ∷ (read.between ++ load ∷ read.after)
    begins = read.loads_versions ∙ append_assoc read.before (load ∷ read.between) (load ∷ read.after)

    written : AreFirstWrites (filter is_of_writer read.before) k values
    written = writes_before (length first) steps values k read.before (load ∷ (read.between ++ load ∷ read.after)) begins writes (legal.versions read.before (read.between ++ load ∷ read.after) load begins)

    still_written : AreFirstWrites (filter is_of_writer until) k values
    still_written = writes_before (length first) steps values k until (load ∷ read.after) read.loads_versions writes (legal.versions until read.after load read.loads_versions)

    -- the writer takes no step between the two
    still : filter is_of_writer read.between ≡ []
    still = append_cancel_left (filter is_of_writer read.before) (filter is_of_writer read.between) []
        (sym (filter-append is_of_writer read.before (load ∷ read.between)) ∙ (still_written.0 ∙ (sym written.0 ∙ sym (append-nil (filter is_of_writer read.before)))))

    value : ValueAfter (length first) first values k
    value = value_after (length first) first values k refl writes.sizes written.1

    unchanged : (front back : List VersionedStep) → read.between ≡ front ++ back → (i : ℕ) → byte_after first (acts (read.before ++ load ∷ front)) i ≡ slice_get value.value i
    unchanged front back e i =
        let none : filter is_of_writer front ≡ [] = front_of_none (filter is_of_writer front) (filter is_of_writer back) (sym (filter-append is_of_writer front back) ∙ (sym (ap (filter is_of_writer) e) ∙ still)) in
        let all : filter is_of_writer (read.before ++ load ∷ front) ≡ flat_map write_of (take k values) =
        filter-append is_of_writer read.before (load ∷ front) ∙ (ap (λ l. filter is_of_writer read.before ++ l) none ∙ (append-nil (filter is_of_writer read.before) ∙ written.0)) in
        ap (last_or (slice_get first i)) (sym (stores-filter i (read.before ++ load ∷ front)) ∙ ap (stores i) all) ∙ value.bytes i

    loaded : (i byte : ℕ) → slice_get bytes i ≡ Some byte → slice_get value.value i ≡ Some byte
    loaded i byte e =
        let at = split_filter (is_of_reader reader) read.between i (LoadByte reader (0 + i) byte) (ap (λ l. slice_get l i) read.loads_bytes ∙ slice_get-byte_steps (LoadByte reader) 0 bytes i byte e) in
        let before : List VersionedStep = read.before ++ load ∷ at.0 in
        let after : List VersionedStep = at.1 ++ load ∷ read.after in
        let here : steps ≡ before ++ LoadByte reader (0 + i) byte ∷ after = begins ∙ (ap (λ l. read.before ++ load ∷ (l ++ load ∷ read.after)) at.2 ∙ simp append_assoc) in
        let right = legal.bytes (acts before) (acts after) (act.Load (0 + i) byte) (ap acts here ∙ filter_map-append byte_act before (LoadByte reader (0 + i) byte ∷ after)) in
        let none : 0 + i ≡ i = omega arith in
        sym (unchanged at.0 (LoadByte reader (0 + i) byte ∷ at.1) at.2 i) ∙ (sym (ap (byte_after first (acts before)) none) ∙ right.1)
