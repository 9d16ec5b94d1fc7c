-- A dead key of a slot map stays dead, whatever commands are run.
use Rattle.std.proofs.Common.{◌≡◌, ℕ, ◌+◌, ◌<◌, ◌≤◌, ◌≢◌, inl, inr, List, [], ◌∷◌, length, get_or, set, cond, Bool, true, false, Option, Some, None, refl, sym, ap, ◌∙◌, arith}
use Rattle.std.specs.Prelude.{nat_eq, nat_lt, not, is_some, count_by, slice_get, if◌then◌else◌}
use Rattle.std.specs.Option.{option_flatten, option_map_or}
use Rattle.std.proofs.lemmas.Bool.{and_parts, cases_eq, cases_lt, eqb-true}
use Rattle.std.proofs.lemmas.Bool.Decides.{nat_tests}
use Rattle.std.proofs.lemmas.List.{length-set, get_or-set_same, get_or-set_other, get_or_past}
use Rattle.std.proofs.lemmas.List.Sums.{sum_by-cons}
use Rattle.ix_tables.specs.Places.{place_at, IsEmptyAt}
use Rattle.ix_slottable.specs.SlotTableState.{value_at}
use Rattle.ix_slottable.specs.SlotTableSteps.{keys_without, slot_table_fill}
use Rattle.ix_slotmap.specs.Generations.{SlotKey, SlotMapState, generation_at, place_value, slot_map_value, IsRetired, IsDead, IsSlotMapFormed}
use Rattle.ix_slotmap.specs.SlotMapSteps.{is_raisable, slot_map_set_at, slot_map_set, slot_map_insert, slot_map_fill, slot_map_replace, slot_map_vacate, slot_map_retire, slot_map_remove}
use Rattle.ix_commands.specs.Run.{run_state}
use Rattle.ix_commands.specs.SlotMapRun.{is_free_place, is_replaceable, slot_map_insert_at, slot_map_after, DeadStaysDead}
use Rattle.ix_commands.specs.declared.command.SlotMapCommand.{SlotMapCommand}
use Rattle.ix_commands.specs.declared.command.SlotMapCommand.TheVariants.{Insert, InsertAt, Remove, Set}

-- how often the place is listed
abbrev times : ℕ → List ℕ → ℕ
times place listed = count_by (nat_eq place) listed

-- 1 if the two places are one
abbrev hit : ℕ → ℕ → ℕ
hit place other = cond (nat_eq place other) 1 0

hit-same : (place other : ℕ) → place ≡ other → hit place other ≡ 1
hit-same place other is = grind (arith, nat_tests)

hit-other : (place other : ℕ) → place ≢ other → hit place other ≡ 0
hit-other place other apart = grind (arith, nat_tests)

times-cons : (place other : ℕ) (listed : List ℕ) → times place (other ∷ listed) ≡ hit place other + times place listed
times-cons place other listed = sum_by-cons (hit place) other listed

without-here : (place other : ℕ) (listed : List ℕ) → place ≡ other → keys_without place (other ∷ listed) ≡ listed
without-here place other listed is =
    let yes : nat_eq place other ≡ true = grind (arith, nat_tests) in ap (λ b. if b then listed else (other ∷ keys_without place listed)) yes

without-there : (place other : ℕ) (listed : List ℕ) → place ≢ other → keys_without place (other ∷ listed) ≡ other ∷ keys_without place listed
without-there place other listed apart =
    let no : nat_eq place other ≡ false = grind (arith, nat_tests) in ap (λ b. if b then listed else (other ∷ keys_without place listed)) no

times-without_same : (place : ℕ) (listed : List ℕ) → 0 < times place listed → times place (keys_without place listed) + 1 ≡ times place listed
times-without_same place [] some = let none : times place [] ≡ 0 = refl in absurd (omega arith)
times-without_same place (other ∷ listed) some = elim (cases_eq place other) [
  | inl here ↦
      let same = ap (times place) (without-here place other listed here) in
      let one = hit-same place other here in
      let all = times-cons place other listed in omega arith
  | inr there ↦
      let none = hit-other place other there in
      let all = times-cons place other listed in
      let later = times-without_same place listed (omega arith) in
      let same = ap (times place) (without-there place other listed there) in
      let rest = times-cons place other (keys_without place listed) in omega arith
]

times-without_le : (place : ℕ) (listed : List ℕ) → times place (keys_without place listed) ≤ times place listed
times-without_le place [] = let none : times place [] ≡ 0 = refl in omega arith
times-without_le place (other ∷ listed) = elim (cases_eq place other) [
  | inl here ↦
      let same = ap (times place) (without-here place other listed here) in
      let all = times-cons place other listed in omega arith
  | inr there ↦
      let all = times-cons place other listed in
      let later = times-without_le place listed in
      let same = ap (times place) (without-there place other listed there) in
      let rest = times-cons place other (keys_without place listed) in omega arith
]

times-without_other : (place gone : ℕ) (listed : List ℕ) → place ≢ gone → times place (keys_without gone listed) ≡ times place listed
times-without_other place gone [] apart = refl
times-without_other place gone (other ∷ listed) apart = elim (cases_eq gone other) [
  | inl here ↦
      let same = ap (times place) (without-here gone other listed here) in
      let none = hit-other place other (λ e. apart (e ∙ sym here)) in
      let all = times-cons place other listed in omega arith
  | inr there ↦
      let all = times-cons place other listed in
      let later = times-without_other place gone listed apart in
      let same = ap (times place) (without-there gone other listed there) in
      let rest = times-cons place other (keys_without gone listed) in omega arith
]

-- no generation is lower after one of them was raised
raise-le : (generations : List ℕ) (place other : ℕ) → get_or generations other 0 ≤ get_or (set generations place (get_or generations place 0 + 1)) other 0
raise-le generations place other = elim (cases_eq other place) [
  | inl here ↦ elim (cases_lt place (length generations)) [
    | inl below ↦
        let now = get_or-set_same generations place (get_or generations place 0 + 1) 0 below in
        let was = ap (λ i. get_or generations i 0) here in
        let is = ap (λ i. get_or (set generations place (get_or generations place 0 + 1)) i 0) here in omega arith
    | inr past ↦ let was = get_or_past generations other 0 (omega arith) in omega arith
  ]
  | inr there ↦ let same = get_or-set_other generations place other (get_or generations place 0 + 1) 0 there in omega arith
]

module _ {X : Type 0} where
  -- each listed place is in range, has nothing in it, and is listed once
  abbrev ListsOnce : List (Option (Option X)) → List ℕ → Type 0
  ListsOnce values listed = (place : ℕ) → 0 < times place listed → IsEmptyAt values place × (times place listed ≡ 1)

  -- a change of a map keeps dead keys dead, and lists each free place once
  record Keeps (s s' : SlotMapState X) : Type 0 where
    listed : ListsOnce s'.slots.values s'.slots.free
    dead : (key : SlotKey) → IsDead s key → IsDead s' key

  -- the same places with the same contents are empty
  IsEmptyAt-set : (values : List (Option (Option X))) (place other : ℕ) (content : Option (Option X)) → other ≢ place → IsEmptyAt values other → IsEmptyAt (set values place content) other
  IsEmptyAt-set values place other content apart empty =
      let len = length-set values place content in (omega (arith, empty.0), get_or-set_other values place other content None apart ∙ empty.1)

  -- a place that is not empty is not listed
  not_listed : (values : List (Option (Option X))) (listed : List ℕ) (place : ℕ) → ListsOnce values listed → (place_at values place ≡ None → ⊥) → times place listed ≡ 0
  not_listed values listed place once held = elim (cases_lt 0 (times place listed)) [
    | inl some ↦ absurd (held (once place some).0.1)
    | inr none ↦ omega arith
  ]

  ListsOnce-set : (values : List (Option (Option X))) (listed : List ℕ) (place : ℕ) (content : Option (Option X)) → ListsOnce values listed → (place_at values place ≡ None → ⊥) → ListsOnce (set values place content) listed
  ListsOnce-set values listed place content once held = λ other some.
      let none = not_listed values listed place once held in
      let apart : other ≢ place = λ e. let no = ap (λ i. times i listed) e in omega arith in
      (IsEmptyAt-set values place other content apart (once other some).0, (once other some).1)

  ListsOnce-fill : (values : List (Option (Option X))) (listed : List ℕ) (place : ℕ) (content : Option (Option X)) → ListsOnce values listed → ListsOnce (set values place content) (keys_without place listed)
  ListsOnce-fill values listed place content once = λ other some. elim (cases_eq other place) [
    | inl here ↦ elim (cases_lt 0 (times place listed)) [
      | inl was ↦
          let one = (once place was).1 in
          let less = times-without_same place listed was in
          let is = ap (λ i. times i (keys_without place listed)) here in absurd (omega arith)
      | inr none ↦
          let fewer = times-without_le place listed in
          let is = ap (λ i. times i (keys_without place listed)) here in absurd (omega arith)
    ]
    | inr there ↦
        let same = times-without_other other place listed there in
        let is = once other (omega arith) in
        (IsEmptyAt-set values place other content there is.0, same ∙ is.1)
  ]

  ListsOnce-vacate : (values : List (Option (Option X))) (listed : List ℕ) (place : ℕ) → ListsOnce values listed → (place_at values place ≡ None → ⊥) → place < length values → ListsOnce (set values place None) (place ∷ listed)
  ListsOnce-vacate values listed place once held below = λ other some.
      let none = not_listed values listed place once held in
      let all = times-cons other place listed in
      elim (cases_eq other place) [
        | inl here ↦
            let one = hit-same other place here in
            let zero = ap (λ i. times i listed) here in
            let len = length-set values place None in
            ((omega arith, ap (λ i. place_at (set values place None) i) here ∙ get_or-set_same values place None None below), omega arith)
        | inr there ↦
            let zero = hit-other other place there in
            let is = once other (omega arith) in
            (IsEmptyAt-set values place other None there is.0, omega (arith, is.1))
      ]

  -- what keeps dead keys dead: retired places stay retired, and no generation is lowered
  dead-kept : (s s' : SlotMapState X) → length s'.slots.values ≡ length s.slots.values → ((place : ℕ) → IsRetired s place → IsRetired s' place)
      → ((place : ℕ) → generation_at s place ≤ generation_at s' place) → (key : SlotKey) → IsDead s key → IsDead s' key
  dead-kept s s' len retired raised key (inl past) = inl (omega (arith, past, len))
  dead-kept s s' len retired raised key (inr (inl is)) = inr (inl (retired key.index is))
  dead-kept s s' len retired raised key (inr (inr less)) = let more = raised key.index in inr (inr (omega (arith, less, more)))

  retired-set : (values : List (Option (Option X))) (place : ℕ) (content : Option (Option X)) → (place_at values place ≡ Some None → ⊥) → (other : ℕ) → place_at values other ≡ Some None
      → place_at (set values place content) other ≡ Some None
  retired-set values place content unretired other is = elim (cases_eq other place) [
    | inl here ↦ absurd (unretired (ap (λ i. place_at values i) (sym here) ∙ is))
    | inr there ↦ get_or-set_other values place other content None there ∙ is
  ]

  -- a place that holds a value
  holds-some : (content : Option (Option X)) (x : X) → content ≡ Some (Some x) → (content ≡ None → ⊥) × (content ≡ Some None → ⊥)
  holds-some content x is = ((λ e. let no : None ≡ Some (Some x) = sym e ∙ is in cc), (λ e. let no : Some None ≡ Some (Some x) = sym e ∙ is in cc))

  flatten-some : (content : Option (Option X)) → is_some (option_flatten content) ≡ true → (x : X) × (content ≡ Some (Some x))
  flatten-some None is = absurd (cc)
  flatten-some (Some None) is = absurd (cc)
  flatten-some (Some (Some x)) is = (x, refl)

  is_some-cond : (found : Bool) (content : Option X) → is_some (cond found content None) ≡ true → is_some content ≡ true
  is_some-cond true content is = is
  is_some-cond false content is = absurd (cc)

  -- the place of a key that has a value holds it
  held-place : (s : SlotMapState X) (key : SlotKey) → is_some (slot_map_value s key) ≡ true → (x : X) × (value_at s.slots key.index ≡ Some (Some x))
  held-place s key is = flatten-some (value_at s.slots key.index) (is_some-cond (nat_eq (generation_at s key.index) key.generation) (place_value s key.index) is)

  in-range : (values : List (Option (Option X))) (place : ℕ) → (place_at values place ≡ None → ⊥) → place < length values
  in-range values place held = elim (cases_lt place (length values)) [
    | inl below ↦ below
    | inr past ↦ absurd (held (get_or_past values place None (omega arith)))
  ]

  Keeps-none : (s : SlotMapState X) → ListsOnce s.slots.values s.slots.free → Keeps s s
  Keeps-none s once = record { listed = once; dead = λ key is. is }

  Keeps-by : (s s' other : SlotMapState X) (test t : Bool) → test ≡ t → (test ≡ true → Keeps s s') → (test ≡ false → Keeps s other) → Keeps s (cond t s' other)
  Keeps-by s s' other test true e is_true is_false = is_true e
  Keeps-by s s' other test false e is_true is_false = is_false e

  Keeps-cond : (s s' other : SlotMapState X) (test : Bool) → (test ≡ true → Keeps s s') → (test ≡ false → Keeps s other) → Keeps s (if test then s' else other)
  Keeps-cond s s' other test is_true is_false = Keeps-by s s' other test test refl is_true is_false

  -- another value in a place that holds one
  Keeps-set : (s : SlotMapState X) (place : ℕ) (old x : X) → ListsOnce s.slots.values s.slots.free → value_at s.slots place ≡ Some (Some old) → Keeps s (slot_map_set_at s place x)
  Keeps-set s place old x once is =
      let held = holds-some (value_at s.slots place) old is in record {
        listed = ListsOnce-set s.slots.values s.slots.free place (Some (Some x)) once held.0;
        dead = dead-kept s (slot_map_set_at s place x) (length-set s.slots.values place (Some (Some x))) (retired-set s.slots.values place (Some (Some x)) held.1) (λ other. omega arith);
      }

  Keeps-replace : (s : SlotMapState X) (place : ℕ) (old x : X) → ListsOnce s.slots.values s.slots.free → value_at s.slots place ≡ Some (Some old) → Keeps s (slot_map_replace s place x)
  Keeps-replace s place old x once is =
      let held = holds-some (value_at s.slots place) old is in record {
        listed = ListsOnce-set s.slots.values s.slots.free place (Some (Some x)) once held.0;
        dead = dead-kept s (slot_map_replace s place x) (length-set s.slots.values place (Some (Some x))) (retired-set s.slots.values place (Some (Some x)) held.1) (raise-le s.generations place);
      }

  Keeps-fill : (s : SlotMapState X) (place : ℕ) (x : X) → ListsOnce s.slots.values s.slots.free → value_at s.slots place ≡ None → Keeps s (slot_map_fill s place x)
  Keeps-fill s place x once empty = record {
    listed = ListsOnce-fill s.slots.values s.slots.free place (Some (Some x)) once;
    dead = dead-kept s (slot_map_fill s place x) (length-set s.slots.values place (Some (Some x)))
        (retired-set s.slots.values place (Some (Some x)) (λ e. let no : None ≡ Some None = sym empty ∙ e in cc)) (λ other. omega arith);
  }

  Keeps-vacate : (s : SlotMapState X) (place : ℕ) (old : X) → ListsOnce s.slots.values s.slots.free → value_at s.slots place ≡ Some (Some old) → Keeps s (slot_map_vacate s place)
  Keeps-vacate s place old once is =
      let held = holds-some (value_at s.slots place) old is in record {
        listed = ListsOnce-vacate s.slots.values s.slots.free place once held.0 (in-range s.slots.values place held.0);
        dead = dead-kept s (slot_map_vacate s place) (length-set s.slots.values place None) (retired-set s.slots.values place None held.1) (raise-le s.generations place);
      }

  Keeps-retire : (s : SlotMapState X) (place : ℕ) (old : X) → ListsOnce s.slots.values s.slots.free → value_at s.slots place ≡ Some (Some old) → Keeps s (slot_map_retire s place)
  Keeps-retire s place old once is =
      let held = holds-some (value_at s.slots place) old is in record {
        listed = ListsOnce-set s.slots.values s.slots.free place (Some None) once held.0;
        dead = dead-kept s (slot_map_retire s place) (length-set s.slots.values place (Some None)) (retired-set s.slots.values place (Some None) held.1) (λ other. omega arith);
      }

  -- the value in the first of the places, if there is one
  abbrev inserted-by : SlotMapState X → X → List ℕ → SlotMapState X
  inserted-by s x listed = record { slots = option_map_or (λ place. slot_table_fill s.slots place (Some x)) (slice_get listed 0) s.slots; generations = s.generations }

  Keeps-insert : (s : SlotMapState X) (x : X) (listed : List ℕ) → s.slots.free ≡ listed → ListsOnce s.slots.values s.slots.free → Keeps s (slot_map_insert s x)
  Keeps-insert s x [] e once = rw (ap (inserted-by s x) e) (Keeps-none s once)
  Keeps-insert s x (place ∷ listed) e once =
      let one = hit-same place place refl in
      let all = times-cons place place listed in
      let is = ap (times place) e in
      let empty = (once place (omega arith)).0.1 in
      rw (ap (inserted-by s x) e) (Keeps-fill s place x once empty)

  none-by : (content : Option (Option X)) → not (is_some content) ≡ true → content ≡ None
  none-by None is = refl
  none-by (Some x) is = absurd (cc)

  free-place : (s : SlotMapState X) (place : ℕ) → is_free_place s place ≡ true → value_at s.slots place ≡ None
  free-place s place is = none-by (value_at s.slots place) (and_parts (nat_lt place (length s.slots.values)) (not (is_some (value_at s.slots place))) is).1

  Keeps-insert_at : (s : SlotMapState X) (place : ℕ) (x : X) → ListsOnce s.slots.values s.slots.free → Keeps s (slot_map_insert_at s place x)
  Keeps-insert_at s place x once =
      Keeps-cond s (slot_map_fill s place x) _ (is_free_place s place) (λ free. Keeps-fill s place x once (free-place s place free))
      (λ _. Keeps-cond s (slot_map_replace s place x) s (is_replaceable s place)
      (λ is. let old = flatten-some (value_at s.slots place) (and_parts (is_some (place_value s place)) (is_raisable s place) is).0 in Keeps-replace s place old.0 x once old.1)
      (λ _. Keeps-none s once))

  Keeps-remove : (s : SlotMapState X) (key : SlotKey) → ListsOnce s.slots.values s.slots.free → Keeps s (slot_map_remove s key)
  Keeps-remove s key once =
      Keeps-cond s (if is_raisable s key.index then slot_map_vacate s key.index else slot_map_retire s key.index) s (is_some (slot_map_value s key))
      (λ is. let old = held-place s key is in
      Keeps-cond s (slot_map_vacate s key.index) (slot_map_retire s key.index) (is_raisable s key.index)
      (λ _. Keeps-vacate s key.index old.0 once old.1) (λ _. Keeps-retire s key.index old.0 once old.1))
      (λ _. Keeps-none s once)

  Keeps-command : (s : SlotMapState X) (command : SlotMapCommand X) → ListsOnce s.slots.values s.slots.free → Keeps s (slot_map_after s command)
  Keeps-command s (Insert x) once = Keeps-insert s x s.slots.free refl once
  Keeps-command s (InsertAt place x) once = Keeps-insert_at s place x once
  Keeps-command s (Remove key) once = Keeps-remove s key once
  Keeps-command s (Set key x) once =
      Keeps-cond s (slot_map_set s key x) s (is_some (slot_map_value s key)) (λ is. let old = held-place s key is in Keeps-set s key.index old.0 x once old.1) (λ _. Keeps-none s once)
  Keeps-command s other once = Keeps-none s once

  dead-run : (s : SlotMapState X) (commands : List (SlotMapCommand X)) → ListsOnce s.slots.values s.slots.free → (key : SlotKey) → IsDead s key → IsDead (run_state slot_map_after s commands) key
  dead-run s [] once key is = is
  dead-run s (command ∷ commands) once key is =
      let step = Keeps-command s command once in dead-run (slot_map_after s command) commands step.listed key (step.dead key is)

  value-None : (s : SlotMapState X) (key : SlotKey) (same : Bool) → nat_eq (generation_at s key.index) key.generation ≡ same → IsDead s key → cond same (place_value s key.index) None ≡ None
  value-None s key false e is = refl
  value-None s key true e (inl past) = ap option_flatten (get_or_past s.slots.values key.index None past)
  value-None s key true e (inr (inl retired)) = ap option_flatten retired
  value-None s key true e (inr (inr less)) = let same = eqb-true (generation_at s key.index) key.generation e in absurd (omega (arith, less, same))

  none_of_flatten : (content : Option (Option X)) → option_flatten content ≡ None → (content ≡ Some None → ⊥) → content ≡ None
  none_of_flatten None empty unretired = refl
  none_of_flatten (Some None) empty unretired = absurd (unretired refl)
  none_of_flatten (Some (Some x)) empty unretired = absurd (cc)

  ListsOnce-formed : (s : SlotMapState X) → IsSlotMapFormed s → ListsOnce s.slots.values s.slots.free
  ListsOnce-formed s formed = λ place some.
      let usable = formed.listed_is_usable place some in
      ((usable.within, none_of_flatten (value_at s.slots place) usable.empty usable.unretired), formed.usable_is_listed place usable)

  pub DeadStaysDead-formed : (s : SlotMapState X) (commands : List (SlotMapCommand X)) → IsSlotMapFormed s → DeadStaysDead s commands
  DeadStaysDead-formed s commands formed = λ key is.
      let later = dead-run s commands (ListsOnce-formed s formed) key is in
      let end = run_state slot_map_after s commands in
      (later, value-None end key (nat_eq (generation_at end key.index) key.generation) refl later)
