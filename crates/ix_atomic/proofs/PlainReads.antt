-- What a read loads that overlaps no write.
use Rattle.std.proofs.Common.{◌≡◌, ℕ, suc, ◌<◌, ◌≤◌, List, [], ◌∷◌, length, map, take, drop, Option, Some, None, is_some, Bool, true, cond, nat_eq, ◌&&◌, refl, sym, ap, ◌∙◌, subst, inl, inr, arith, eq-eqb, eqb-true}
use Rattle.std.specs.List.{filter_map, cons_option, last_or, slice_get}
use Rattle.std.proofs.lemmas.Option.{slice_get_within}
use Rattle.std.proofs.lemmas.List.{map-append}
use Rattle.std.proofs.lemmas.Bool.{cases_lt, cases_eq, cases_order, and_parts, and_from}
use Rattle.std.proofs.lemmas.Bool.Decides.{eqb_tells}
use Rattle.ix_atomic.specs.declared.byte_atomic.steps.plain.Act.{Act}
use Rattle.ix_atomic.specs.declared.byte_atomic.steps.plain.Act.TheVariants.{Store, Load}
use Rattle.ix_atomic.specs.declared.byte_atomic.steps.plain.Step.{Step}
use Rattle.ix_atomic.specs.ByteActs.{stored_at}
use Rattle.ix_atomic.specs.PlainSteps.{IsLegal}
use Rattle.ix_atomic.specs.Operations.{TakesAt, Takes, times_stored, IsWrite, IsFinishedRead, IsUnfinishedWrite, AreReadsAndWrites, Lasts, Overlap, OverlapsNoWrite, IsBefore, HasNoWriteBefore, IsLastWriteBefore}
use Rattle.ix_atomic.proofs.Splits.{split_at, in_take, to_take}
use Rattle.ix_atomic.proofs.LastGiven.{last_given, count_by_item, item_counted}

-- what a step stores at a place
abbrev step_stores : ℕ → Step → Option ℕ
step_stores place step = stored_at place step.act

stored_at-Store : (place byte : ℕ) → stored_at place (Store place byte) ≡ Some byte
stored_at-Store place byte = ap (λ b. cond b (Some byte) None) (eq-eqb place place refl)

-- an act that stores at a place is a Store there
stores_there : (place byte : ℕ) (act : Act) → stored_at place act ≡ Some byte → act ≡ Store place byte
stores_there place byte (Store at new) e = elim (eqb_tells at place) [
  | inl here ↦ let same : new ≡ byte = (let yes : Some new ≡ Some byte = sym (ap (λ b. cond b (Some new) None) here.0) ∙ e in cc) in ap (λ p. Store p new) here.1 ∙ ap (λ b. Store place b) same
  | inr other ↦ let no : None ≡ Some byte = sym (ap (λ b. cond b (Some new) None) other.0) ∙ e in absurd (cc)
]
stores_there place byte (Load at old) e = absurd (cc)

takes_at : (steps : List Step) (index : ℕ) (step : Step) (act : Act) → slice_get steps index ≡ Some step → step.act ≡ act → TakesAt steps step.op index act
takes_at steps index step act e same = e ∙ ap (λ a. let s : Step = record { op = step.op; act = a } in Some s) same

filter_map-acts : (place : ℕ) (steps : List Step) → filter_map (stored_at place) (map (λ step. step.act) steps) ≡ filter_map (step_stores place) steps
filter_map-acts place [] = refl
filter_map-acts place (step ∷ steps) = ap (cons_option (stored_at place step.act)) (filter_map-acts place steps)

-- a Load has the byte of its place
load_legal : (first : List ℕ) (steps : List Step) (op place byte index : ℕ) → IsLegal first steps → TakesAt steps op index (Load place byte)
    → (place < length first) × (last_or (slice_get first place) (filter_map (step_stores place) (take index steps)) ≡ Some byte)
load_legal first steps op place byte index legal e =
    let before : List Step = take index steps in
    let after : List Step = drop (suc index) steps in
    let step : Step = record { op = op; act = Load place byte } in
    let here = ap (map (λ (s : Step). s.act)) (split_at steps index step e) ∙ map-append (λ (s : Step). s.act) before (step ∷ after) in
    let h = legal (map (λ s. s.act) before) (map (λ s. s.act) after) (Load place byte) here in
    (h.0, sym (ap (last_or (slice_get first place)) (filter_map-acts place before)) ∙ h.1)

-- an operation that stores at a place, and one that does not
stores_somewhere : (steps : List Step) (op place : ℕ) → 0 < times_stored steps op place → (byte : ℕ) × Takes steps op (Store place byte)
stores_somewhere steps op place some =
    let p : Step → Bool = λ step. nat_eq step.op op && is_some (stored_at place step.act) in
    let h = count_by_item p steps some in
    let tests = and_parts _ _ h.3 in
    is_store h.0 h.1 h.2 (eqb-true _ _ tests.0) (stored_at place h.1.act) refl tests.1
  where
    is_store : (index : ℕ) (step : Step) → slice_get steps index ≡ Some step → step.op ≡ op → (o : Option ℕ) → stored_at place step.act ≡ o → is_some o ≡ true → (byte : ℕ) × Takes steps op (Store place byte)
    is_store index step stands same None is some = absurd (cc)
    is_store index step stands same (Some byte) is some =
        (byte, (index, takes_at steps index step (Store place byte) stands (stores_there place byte step.act is) ∙ ap (λ o. let s : Step = record { op = o; act = Store place byte } in Some s) same))

stored_once : (steps : List Step) (op place byte index : ℕ) → TakesAt steps op index (Store place byte) → 0 < times_stored steps op place
stored_once steps op place byte index e =
    item_counted (λ step. nat_eq step.op op && is_some (stored_at place step.act)) steps index (record { op = op; act = Store place byte }) e
    (and_from _ _ (eq-eqb op op refl) (ap is_some (stored_at-Store place byte)))

-- of two steps at one index, the operations are the same
same_operation : (steps : List Step) (i j a b : ℕ) (x y : Act) → i ≡ j → TakesAt steps a i x → TakesAt steps b j y → a ≡ b
same_operation steps i j a b x y same e g =
    let one : Step = record { op = a; act = x } in
    let two : Step = record { op = b; act = y } in
    let equal : one ≡ two = cc in
    ap (λ (s : Step). s.op) equal

module _ {first : List ℕ} {steps : List Step} where
  -- an operation lasts at each of its steps, and at each index between two at which it lasts
  Lasts-step : (op index : ℕ) (act : Act) → TakesAt steps op index act → Lasts first steps op index
  Lasts-step op index act e =
      record { inside = slice_get_within steps index _ e; begun = (index, omega arith, (act, e)); goes_on = inl (index, omega arith, (act, e)) }

  Lasts-between : (op i j k : ℕ) → Lasts first steps op i → Lasts first steps op k → i ≤ j → j ≤ k → Lasts first steps op j
  Lasts-between op i j k a b low high = record {
    inside = let h = b.inside in omega arith;
    begun = (a.begun.0, (let h = a.begun.1 in omega arith), a.begun.2);
    goes_on = elim b.goes_on [
      | inl g ↦ inl (g.0, (let h = g.1 in omega arith), g.2)
      | inr g ↦ inr g
    ];
  }

  -- of two operations that do not overlap, the one that is earlier somewhere is before the other
  IsBefore-somewhere : (a b k j : ℕ) → (Overlap first steps a b → ⊥) → Lasts first steps a k → Lasts first steps b j → k < j → IsBefore first steps a b
  IsBefore-somewhere a b k j apart ak bj below i m ai bm = elim (cases_lt i m) [
    | inl h ↦ h
    | inr h ↦ elim (cases_lt i j) [
      | inl g ↦ absurd (apart (i, ai, Lasts-between b m i j bm bj h (omega arith)))
      | inr g ↦ absurd (apart (j, Lasts-between a k j i ak ai (omega arith) g, bj))
    ]
  ]

  -- A write before another operation has stored each place, earlier: were it unfinished, it would last to the end.
  stored_before : (write other place j : ℕ) → IsWrite first steps write → place < length first → Lasts first steps other j → IsBefore first steps write other
      → (byte index : ℕ) × TakesAt steps write index (Store place byte) × (index < j)
  stored_before write other place j is_write inside lasts before =
      let from = is_write.has_step in
      let starts : from.0 < j = before from.0 j (Lasts-step write from.0 from.1.0 from.1.1) lasts in
      elim (cases_lt 0 (times_stored steps write place)) [
        | inl some ↦ let at = stores_somewhere steps write place some in
            (at.0, at.1.0, at.1.1, before at.1.0 j (Lasts-step write at.1.0 (Store place at.0) at.1.1) lasts)
        | inr none ↦ let unfinished : IsUnfinishedWrite first steps write = record { write = is_write; misses = (place, inside, omega arith) } in
            let still : Lasts first steps write j = record { inside = lasts.inside; begun = (from.0, omega arith, from.1); goes_on = inr unfinished } in
            let wrong = before j j still lasts in
            absurd (omega arith)
      ]

  -- an operation that stores is a write, and no read
  is_write : (op place byte index : ℕ) → AreReadsAndWrites first steps → TakesAt steps op index (Store place byte) → IsWrite first steps op
  is_write op place byte index each e = elim (each op index (Store place byte, e)) [
    | inl read ↦ let none = read.stores place in let some = stored_once steps op place byte index e in absurd (omega arith)
    | inr write ↦ write
  ]

  apart_from_read : (op read place byte index : ℕ) → AreReadsAndWrites first steps → IsFinishedRead first steps read → OverlapsNoWrite first steps read → TakesAt steps op index (Store place byte) → Overlap first steps op read → ⊥
  apart_from_read op read place byte index each is_read alone e overlap =
      let same = alone op (is_write op place byte index each e) overlap in
      let none : times_stored steps read place ≡ 0 = is_read.read.stores place in
      let some : 0 < times_stored steps read place = subst (λ (o : ℕ). 0 < times_stored steps o place) same (stored_once steps op place byte index e) in
      omega arith

pub after_no_write : (first : List ℕ) (steps : List Step) (read place byte : ℕ) → IsLegal first steps → AreReadsAndWrites first steps
    → IsFinishedRead first steps read → OverlapsNoWrite first steps read → HasNoWriteBefore first steps read
    → Takes steps read (Load place byte) → slice_get first place ≡ Some byte
after_no_write first steps read place byte legal each is_read alone none load =
    let j = load.0 in
    let right = load_legal first steps read place byte j legal load.1 in
    let lasts : Lasts first steps read j = Lasts-step read j (Load place byte) load.1 in
    elim (last_given (step_stores place) (take j steps) (slice_get first place)) [
      | inl h ↦ sym h.is_first ∙ right.1
      | inr h ↦ let at = in_take steps j h.index _ h.stands in
          let stores : TakesAt steps h.item.op h.index (Store place h.value) = takes_at steps h.index h.item (Store place h.value) at.0 (stores_there place h.value h.item.act h.gives) in
          let earlier : Lasts first steps h.item.op h.index = Lasts-step h.item.op h.index (Store place h.value) stores in
          absurd (none h.item.op (is_write h.item.op place h.value h.index each stores)
          (IsBefore-somewhere h.item.op read h.index j (apart_from_read h.item.op read place h.value h.index each is_read alone stores) earlier lasts at.1))
    ]

pub after_last_write : (first : List ℕ) (steps : List Step) (read write place byte : ℕ) → IsLegal first steps → AreReadsAndWrites first steps
    → IsFinishedRead first steps read → OverlapsNoWrite first steps read
    → IsLastWriteBefore first steps write read → OverlapsNoWrite first steps write
    → Takes steps read (Load place byte) → Takes steps write (Store place byte)
after_last_write first steps read write place byte legal each is_read alone last write_alone load =
    let j = load.0 in
    let right = load_legal first steps read place byte j legal load.1 in
    let lasts : Lasts first steps read j = Lasts-step read j (Load place byte) load.1 in
    let w = stored_before write read place j last.is_write right.0 lasts last.before in
    let w_taken = to_take steps j w.1 _ w.2 w.3 in
    let w_lasts : Lasts first steps write w.1 = Lasts-step write w.1 (Store place w.0) w.2 in
    let w_stores = stored_at-Store place w.0 in
    elim (last_given (step_stores place) (take j steps) (slice_get first place)) [
      | inl h ↦ let misses = h.none w.1 _ w_taken in absurd (cc)
      | inr h ↦ let at = in_take steps j h.index _ h.stands in
          let op = h.item.op in
          let stores : TakesAt steps op h.index (Store place h.value) = takes_at steps h.index h.item (Store place h.value) at.0 (stores_there place h.value h.item.act h.gives) in
          let same_byte : h.value ≡ byte = (let e : Some h.value ≡ Some byte = sym h.is_last ∙ right.1 in cc) in
          let h_lasts : Lasts first steps op h.index = Lasts-step op h.index (Store place h.value) stores in
          elim (cases_eq op write) [
            | inl same ↦ (h.index, stores ∙ ap (λ o. let s : Step = record { op = o; act = Store place h.value } in Some s) same ∙ ap (λ b. let s : Step = record { op = write; act = Store place b } in Some s) same_byte)
            | inr other ↦ let is_other = is_write op place h.value h.index each stores in
                elim (cases_order h.index w.1) [
                  | inl here ↦ absurd (other (same_operation steps h.index w.1 op write _ _ here stores w.2))
                  | inr (inl below) ↦ let misses = h.later w.1 _ below w_taken in absurd (cc)
                  | inr (inr above) ↦ absurd (last.last op is_other
                      (IsBefore-somewhere write op w.1 h.index (λ o. other (write_alone op is_other (o.0, o.2, o.1))) w_lasts h_lasts above)
                      (IsBefore-somewhere op read h.index j (apart_from_read op read place h.value h.index each is_read alone stores) h_lasts lasts at.1))
                ]
          ]
    ]
