-- What each step of a flat map leaves of the bound of its places.
use Rattle.std.proofs.Common.{◌≡◌, ℕ, ◌<◌, ◌≤◌, ◌+◌, List, length, set, drop, Bool, true, false, Option, Some, None, IsSome, refl, sym, ap, ◌∙◌, subst, inl, inr, arith}
use Rattle.std.specs.Prelude.{nat_eq, nat_lt, if◌then◌else◌}
use Rattle.std.specs.List.{find}
use Rattle.std.proofs.lemmas.Bool.{cases_eq, cases_lt}
use Rattle.std.proofs.lemmas.Bool.Decides.{nat_tests}
use Rattle.std.proofs.lemmas.List.{get_or-set_other, length-set}
use Rattle.ix_slottable.specs.SlotTableState.{SlotTableState, value_at, IsHeld, slot_table_new, entries_from}
use Rattle.ix_flatmap.specs.MapState.{map_entry, IsBound}
use Rattle.ix_flatmap.specs.declared.map.pair.Pair.{Pair}
use Rattle.ix_slottable.proofs.Entries.{entries_from-none}
use Rattle.ix_slottable.specs.SlotTableSteps.{slot_table_set, slot_table_fill, SlotTableInsert, SlotTableRemove}
use Rattle.ix_slottable.proofs.SlotTableSteps.{SlotTableInsert-fills, SlotTableRemove-vacates}
use Rattle.ix_tables.proofs.VacantTables.{place_at-replicate}
use Rattle.ix_flatmap.specs.inner.Bounds.{bound_with, bound_without}

module _ {T : Type 0} where
  -- the place of a value is below the bound
  pub below_bound : (s : SlotTableState T) (bound place : ℕ) → IsBound s bound → IsHeld s place → place < bound
  below_bound s bound place is held = elim (cases_lt place bound) [
    | inl below ↦ below
    | inr past ↦ absurd (let no = subst IsSome (is.beyond place past) held in cc)
  ]

  -- a new map has no pair
  pub IsBound-slot_table_new : (capacity : ℕ) (s : SlotTableState T) → s ≡ slot_table_new capacity → IsBound s 0
  IsBound-slot_table_new capacity s is = record { within = omega arith; beyond = λ place past. ap (λ t. value_at t place) is ∙ place_at-replicate capacity place }

  -- a place gets another content, and the others keep theirs
  IsBound-set : (s : SlotTableState T) (free : List ℕ) (bound bound' place : ℕ) (content : Option T) → IsBound s bound → bound ≤ bound' → place < bound' → bound' ≤ length s.values
      → IsBound (record { values = set s.values place content; free = free }) bound'
  IsBound-set s free bound bound' place content is rises above fits = record {
    within = let same = length-set s.values place content in omega arith;
    beyond = λ other past. get_or-set_other s.values place other content None (λ e. omega arith) ∙ is.beyond other (omega arith);
  }

  pub IsBound-inserted : (s new : SlotTableState T) (bound place : ℕ) (value : T) → IsBound s bound → SlotTableInsert s value new (Some place) → IsBound new (bound_with bound place)
  IsBound-inserted s new bound place value is step =
      let filled = SlotTableInsert-fills s value new place step in
      let within = is.within in
      let fits = step.was_free.0 in
      subst (λ t. IsBound t (bound_with bound place)) (sym filled) (elim (cases_lt place bound) [
        | inl below ↦
            let yes : nat_lt place bound ≡ true = grind (arith, nat_tests) in
            subst (IsBound (slot_table_fill s place value)) (sym (ap (λ b. if b then bound else place + 1) yes)) (IsBound-set s _ bound bound place (Some value) is (omega arith) below within)
        | inr past ↦
            let no : nat_lt place bound ≡ false = grind (arith, nat_tests) in
            subst (IsBound (slot_table_fill s place value)) (sym (ap (λ b. if b then bound else place + 1) no)) (IsBound-set s _ bound (place + 1) place (Some value) is (omega arith) (omega arith) (omega arith))
      ])

  pub IsBound-lent : (s : SlotTableState T) (bound place : ℕ) (value : T) → IsBound s bound → IsHeld s place → IsBound (slot_table_set s place value) bound
  IsBound-lent s bound place value is held = IsBound-set s _ bound bound place (Some value) is (omega arith) (below_bound s bound place is held) is.within

  pub IsBound-removed : (s new : SlotTableState T) (bound place : ℕ) (value : T) → IsBound s bound → SlotTableRemove s place new (Some value) → IsBound new (bound_without bound place)
  IsBound-removed s new bound place value is step =
      let below = below_bound s bound place is (subst IsSome step.value refl) in
      let vacated = SlotTableRemove-vacates s place new value step in
      let kept = subst (λ t. IsBound t bound) (sym vacated) (IsBound-set s _ bound bound place None is (omega arith) below is.within) in
      elim (cases_eq (place + 1) bound) [
        | inl last ↦
            let yes : nat_eq (place + 1) bound ≡ true = grind (arith, nat_tests) in
            subst (IsBound new) (sym (ap (λ b. if b then place else bound) yes)) (record {
              within = let most = kept.within in omega arith;
              beyond = λ other past. elim (cases_eq other place) [
                | inl same ↦ ap (value_at new) same ∙ step.gone
                | inr apart ↦ kept.beyond other (omega arith)
              ];
            })
        | inr apart ↦
            let no : nat_eq (place + 1) bound ≡ false = grind (arith, nat_tests) in
            subst (IsBound new) (sym (ap (λ b. if b then place else bound) no)) kept
      ]

module _ {K V : Type 0} where
  -- nothing is found from the bound on
  pub map_entry-ended : {Q : Type 0} (eq : K → Q → Bool) (s : SlotTableState (Pair K V)) (bound place : ℕ) (key : Q) → IsBound s bound → bound ≤ place
      → find (λ entry. eq entry.1.key key) (entries_from place (drop place s.values)) ≡ map_entry eq s key → None ≡ map_entry eq s key
  map_entry-ended eq s bound place key bounds past found =
      ap (find (λ entry. eq entry.1.key key))
      (sym (entries_from-none place place s.values (λ i from. bounds.beyond i (omega arith))))
      ∙ found
