-- A range of the places of a slot map, whose held keys come from both ends.
use Rattle.std.proofs.Common.{◌≡◌, ◌≢◌, ℕ, zero, suc, ◌+◌, ◌-◌, ◌<◌, List, [], ◌∷◌, ◌++◌, length, take, drop, IsSome, Option, Some, None, refl, ap, ◌∙◌, arith}
use Rattle.std.specs.Prelude.{slice_range}
use Rattle.std.specs.Option.{option_flatten}
use Rattle.ix_tables.proofs.Places.{place_at_within}
use Rattle.ix_slottable.specs.SlotTableState.{value_at, entries_from}
use Rattle.ix_slottable.specs.inner.KeyRange.{IsKeyRange}
use Rattle.ix_slottable.proofs.SlotTableCalls.{entries_from-append}
use Rattle.ix_slottable.proofs.KeyRanges.{slice_range-one, items_within-first, IsKeyRange-first, items_within-last, IsKeyRange-last}
use Rattle.ix_slotmap.specs.Generations.{SlotKey, SlotMapState, key_at, place_value, held_entries}
use Rattle.ix_slotmap.proofs.SlotMapCalls.{content_of, held_entries-append}

module _ {T : Type 0} (s : SlotMapState T) where
  -- the held keys of places, each with its value
  abbrev pub held_of : ℕ → List (Option (Option T)) → List (SlotKey × T)
  held_of start places = held_entries s (entries_from start places)

  pub held_of-append : (start : ℕ) (front back : List (Option (Option T))) → held_of start (front ++ back) ≡ held_of start front ++ held_of (start + length front) back
  held_of-append start front back =
      ap (held_entries s) (entries_from-append start front back) ∙ held_entries-append s (entries_from start front) (entries_from (start + length front) back)

  abbrev pub held_within : ℕ → ℕ → List (SlotKey × T)
  held_within a b = held_of a (slice_range s.slots.values a b)

  pub some_before : (end : ℕ) → 0 < length (held_of 0 (take end s.slots.values)) → 0 < end
  some_before zero some = let none : length (held_of 0 (take 0 s.slots.values)) ≡ 0 = refl in absurd (omega (arith, some, none))
  some_before (suc n) some = omega arith

  -- a place without a value has no held key
  pub held_within-none : (place : ℕ) → place < length s.slots.values → (IsSome (place_value s place) → ⊥) → held_within place (place + 1) ≡ []
  held_within-none place within none = ap (held_of place) (slice_range-one s.slots.values place None within) ∙ go (value_at s.slots place) none
    where
      go : (content : Option (Option T)) → (IsSome (option_flatten content) → ⊥) → held_of place (content ∷ []) ≡ []
      go None none = refl
      go (Some None) none = refl
      go (Some (Some value)) none = absurd (none refl)

  module _ (place : ℕ) (value : T) where
    held_within-one : place_value s place ≡ Some value → held_within place (place + 1) ≡ (key_at s place, value) ∷ []
    held_within-one at =
        let content = content_of (value_at s.slots place) value at in
        ap (held_of place) (slice_range-one s.slots.values place None (place_at_within s.slots.values place (Some value) content))
        ∙ ap (λ c. held_of place (c ∷ [])) content

    module _ (index end left : ℕ) where
      -- the first held key of a range, and the range that is left
      pub record FirstHeld : Type 0 where
        pub entries : held_within index end ≡ (key_at s place, value) ∷ held_within (place + 1) end
        pub rest : IsKeyRange (length s.slots.values) (place + 1) end (left - 1) (held_within (place + 1) end)

      -- the last held key of a range, and the range that is left
      pub record LastHeld : Type 0 where
        pub entries : held_within index end ≡ held_within index place ++ (key_at s place, value) ∷ []
        pub rest : IsKeyRange (length s.slots.values) index place (left - 1) (held_within index place)

      module _ (range : IsKeyRange (length s.slots.values) index end left (held_within index end)) (more : left ≢ 0) (at : place_value s place ≡ Some value) where
        pub first_held : held_of place (drop place s.slots.values) ≡ held_of index (drop index s.slots.values) → FirstHeld
        first_held same =
            let within = place_at_within s.slots.values place (Some value) (content_of (value_at s.slots place) value at) in record {
              entries = items_within-first held_of held_of-append s.slots.values index end left range more place (key_at s place, value) within (held_within-one at) same;
              rest = IsKeyRange-first held_of held_of-append s.slots.values index end left range more place (key_at s place, value) within (held_within-one at) same;
            }

        pub last_held : place < end → held_of 0 (take (place + 1) s.slots.values) ≡ held_of 0 (take end s.slots.values) → LastHeld
        last_held below same = record {
          entries = items_within-last held_of held_of-append s.slots.values index end left range more place (key_at s place, value) below (held_within-one at) same;
          rest = IsKeyRange-last held_of held_of-append s.slots.values index end left range more place (key_at s place, value) below (held_within-one at) same;
        }
