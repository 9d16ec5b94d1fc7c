-- A slot map that is drained.
use Rattle.std.proofs.Common.{◌≡◌, ℕ, zero, suc, ◌+◌, ◌<◌, ◌≤◌, inl, inr, List, [], ◌∷◌, length, drop, Bool, true, false, Option, Some, None, refl, sym, ap, ap₂, ◌∙◌, subst, arith}
use Rattle.std.specs.Prelude.{if◌then◌else◌, is_some}
use Rattle.std.specs.List.{fold, range_with_len}
use Rattle.std.specs.Option.{option_flatten}
use Rattle.std.proofs.lemmas.Bool.{cases_eq}
use Rattle.std.proofs.lemmas.List.{drop-set-lt}
use Rattle.ix_tables.specs.Places.{place_at}
use Rattle.ix_tables.proofs.Places.{place_at_within}
use Rattle.ix_slottable.specs.SlotTableState.{value_at, entries_from}
use Rattle.ix_slotmap.specs.Generations.{SlotKey, SlotMapState, generation_at, key_at, place_value, slot_map_value, slot_map_len, held_entries}
use Rattle.ix_slotmap.specs.SlotMapSteps.{is_raisable, slot_map_vacate, slot_map_retire, slot_map_remove_at, slot_map_clear, SlotMapRemove}
use Rattle.ix_slotmap.proofs.SlotMapEntries.{count_by-held, held_entries-first}
use Rattle.ix_slotmap.proofs.SlotMapCalls.{content_of, slot_map_value-key_at, SettlesPlace, SettlesPlace-slot_map_remove_at}
use Rattle.ix_slottable.proofs.SlotTableDrains.{fold-first, none_before, none_of}

module _ {T : Type 0} where
  -- the entries of places whose generations are the same
  held_entries-same : (s t : SlotMapState T) (start : ℕ) (places : List (Option (Option T))) → ((place : ℕ) → start ≤ place → generation_at t place ≡ generation_at s place)
      → held_entries t (entries_from start places) ≡ held_entries s (entries_from start places)
  held_entries-same s t start [] same = refl
  held_entries-same s t start (None ∷ places) same = held_entries-same s t (start + 1) places (λ place past. same place (omega arith))
  held_entries-same s t start (Some None ∷ places) same = held_entries-same s t (start + 1) places (λ place past. same place (omega arith))
  held_entries-same s t start (Some (Some value) ∷ places) same =
      let first : key_at t start ≡ key_at s start = ap (λ (n : ℕ). let key : SlotKey = record { index = start; generation = n } in key) (same start (omega arith)) in
      ap₂ (λ key items. (key, value) ∷ items) first (held_entries-same s t (start + 1) places (λ place past. same place (omega arith)))

  module _ (s new : SlotMapState T) (start number : ℕ) (value : T)
      (same : held_entries s (entries_from number (drop number s.slots.values)) ≡ held_entries s (entries_from start (drop start s.slots.values)))
      (at : Some value ≡ place_value s number) (step : SlotMapRemove s (key_at s number) new (Some value)) where
    settles : SettlesPlace s number new
    settles = SettlesPlace-slot_map_remove_at s number new step.map

    places_after : drop (number + 1) new.slots.values ≡ drop (number + 1) s.slots.values
    places_after = ap (λ (t : SlotMapState T). drop (number + 1) t.slots.values) step.map ∙ go (is_some (slot_map_value s (key_at s number))) (is_raisable s number)
      where
        go : (held raisable : Bool) → drop (number + 1) (if held then (if raisable then slot_map_vacate s number else slot_map_retire s number) else s).slots.values ≡ drop (number + 1) s.slots.values
        go true true = drop-set-lt (number + 1) s.slots.values number None (omega arith)
        go true false = drop-set-lt (number + 1) s.slots.values number (Some None) (omega arith)
        go false raisable = refl

    -- the key of the least place with a value is the first of the items, and those after it are the rest
    rest_after : held_entries new (entries_from (number + 1) (drop (number + 1) new.slots.values)) ≡ held_entries s (entries_from (number + 1) (drop (number + 1) s.slots.values))
    rest_after =
        held_entries-same s new (number + 1) (drop (number + 1) new.slots.values) (λ place past. settles.generations place (λ e. omega arith))
        ∙ ap (λ places. held_entries s (entries_from (number + 1) places)) places_after

    pub next_key : held_entries s (entries_from start (drop start s.slots.values)) ≡ (key_at s number, value) ∷ held_entries new (entries_from (number + 1) (drop (number + 1) new.slots.values))
    next_key = sym same ∙ held_entries-first s number value at ∙ ap (λ items. (key_at s number, value) ∷ items) (sym rest_after)

    module _ (counted : slot_map_len s ≡ length (held_entries s (entries_from start (drop start s.slots.values)))) where
      -- no place before it has a value
      before : (place : ℕ) → place < number → place_value s place ≡ None
      before place less =
          let all = counted ∙ ap length (sym same) ∙ sym (count_by-held s number (drop number s.slots.values)) in
          none_of (place_value s place) (none_before (λ content. is_some (option_flatten content)) refl s.slots.values number all place less)

      unchanged : (t : SlotMapState T) (place : ℕ) → place_value t place ≡ None → slot_map_remove_at t place ≡ t
      unchanged t place none = ap (λ content. if is_some content then (if is_raisable t place then slot_map_vacate t place else slot_map_retire t place) else t) (slot_map_value-key_at t place ∙ none)

      -- the rest is removed after it
      pub slot_map_clear-next : place_value new number ≡ None → slot_map_clear new ≡ slot_map_clear s
      slot_map_clear-next gone =
          let below = place_at_within s.slots.values number (Some value) (content_of (value_at s.slots number) value (sym at)) in
          let none : (place : ℕ) → place < number + 1 → place_value new place ≡ None = λ place less. elim (cases_eq place number) [
            | inl here ↦ ap (place_value new) here ∙ gone
            | inr there ↦ ap option_flatten (settles.kept place there) ∙ before place (omega arith)
          ] in
          let after : (place : ℕ) → place < number + 1 → slot_map_remove_at (slot_map_remove_at s number) place ≡ slot_map_remove_at s number =
          λ place less. subst (λ (t : SlotMapState T). slot_map_remove_at t place ≡ t) step.map (unchanged new place (none place less)) in
          ap (λ n. fold slot_map_remove_at new (range_with_len 0 n)) settles.capacity
          ∙ ap (λ (t : SlotMapState T). fold slot_map_remove_at t (range_with_len 0 (length s.slots.values))) step.map
          ∙ fold-first slot_map_remove_at s number (length s.slots.values) below (λ place less. unchanged s place (before place less)) after

      -- as many are left as are still to come
      pub counted-next : slot_map_len new ≡ length (held_entries new (entries_from 0 new.slots.values)) → (place_value new number ≡ None) → slot_map_len new ≡ length (held_entries new (entries_from (number + 1) (drop (number + 1) new.slots.values)))
      counted-next len gone =
          let start : 0 + (number + 1) ≡ number + 1 = omega arith in
          len ∙ ap length (skip (number + 1) 0 new.slots.values i_none)
          ∙ ap (λ k. length (held_entries new (entries_from k (drop (number + 1) new.slots.values)))) start
        where
          i_none : (i : ℕ) → i < number + 1 → place_value new i ≡ None
          i_none i less = elim (cases_eq i number) [
            | inl here ↦ ap (place_value new) here ∙ gone
            | inr there ↦ ap option_flatten (settles.kept i there) ∙ before i (omega arith)
          ]

          skip : (n start : ℕ) (places : List (Option (Option T))) → ((i : ℕ) → i < n → option_flatten (place_at places i) ≡ None)
              → held_entries new (entries_from start places) ≡ held_entries new (entries_from (start + n) (drop n places))
          skip zero start places none = let is : start ≡ start + 0 = omega arith in ap (λ k. held_entries new (entries_from k places)) is
          skip (suc n) start [] none = refl
          skip (suc n) start (None ∷ places) none =
              let is : start + 1 + n ≡ start + suc n = omega arith in
              skip n (start + 1) places (λ i less. none (suc i) (omega arith)) ∙ ap (λ k. held_entries new (entries_from k (drop n places))) is
          skip (suc n) start (Some None ∷ places) none =
              let is : start + 1 + n ≡ start + suc n = omega arith in
              skip n (start + 1) places (λ i less. none (suc i) (omega arith)) ∙ ap (λ k. held_entries new (entries_from k (drop n places))) is
          skip (suc n) start (Some (Some value) ∷ places) none = absurd (let no : Some value ≡ None = none 0 (omega arith) in cc)

module _ {T : Type 0} where
  -- nothing is to come of a map without values
  pub counted-empty : (s : SlotMapState T) (start : ℕ) → ((place : ℕ) → place_value s place ≡ None) → slot_map_len s ≡ length (held_entries s (entries_from start (drop start s.slots.values)))
  counted-empty s start none =
      count_by-held s 0 s.slots.values
      ∙ ap length (nothing 0 s.slots.values none)
      ∙ sym (ap length (nothing start (drop start s.slots.values) (λ i. ap option_flatten (get_or-drop start s.slots.values i) ∙ none (start + i))))
    where
      nothing : (start : ℕ) (places : List (Option (Option T))) → ((i : ℕ) → option_flatten (place_at places i) ≡ None) → held_entries s (entries_from start places) ≡ []
      nothing start [] none = refl
      nothing start (None ∷ places) none = nothing (start + 1) places (λ i. none (suc i))
      nothing start (Some None ∷ places) none = nothing (start + 1) places (λ i. none (suc i))
      nothing start (Some (Some value) ∷ places) none = absurd (let no : Some value ≡ None = none 0 in cc)

      get_or-drop : (n : ℕ) (places : List (Option (Option T))) (i : ℕ) → place_at (drop n places) i ≡ place_at places (n + i)
      get_or-drop zero places i = let is : i ≡ 0 + i = omega arith in ap (place_at places) is
      get_or-drop (suc n) [] i = refl
      get_or-drop (suc n) (place ∷ places) i = let is : suc n + i ≡ suc (n + i) = omega arith in get_or-drop n places i ∙ sym (ap (place_at (place ∷ places)) is)

  no_value : (s : SlotMapState T) (place : ℕ) → ((key : SlotKey) → slot_map_value s key ≡ None) → place_value s place ≡ None
  no_value s place none = sym (slot_map_value-key_at s place) ∙ none (key_at s place)

  pub counted-cleared : (s : SlotMapState T) (start : ℕ) → ((key : SlotKey) → slot_map_value s key ≡ None) → slot_map_len s ≡ length (held_entries s (entries_from start (drop start s.slots.values)))
  counted-cleared s start none = counted-empty s start (λ place. no_value s place none)
