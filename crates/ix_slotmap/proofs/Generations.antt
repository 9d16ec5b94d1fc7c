-- Lemmas on slot maps with generations.
use Rattle.std.proofs.Common.{◌≡◌, ℕ, ◌+◌, ◌<◌, inl, inr, List, [], ◌∷◌, length, set, Option, Some, None, refl, ap, ◌∙◌, arith}
use Rattle.std.specs.Prelude.{if◌then◌else◌, is_some, count_by, nat_eq, Bool, true, false}
use Rattle.std.specs.Option.{option_flatten}
use Rattle.std.proofs.lemmas.Bool.Decides.{nat_tests}
use Rattle.std.proofs.lemmas.List.{length-set}
use Rattle.std.proofs.lemmas.List.FromFn.{length-range_with_len}
use Rattle.std.proofs.lemmas.List.Folds.{sum_by-replicate}
use Rattle.std.proofs.lemmas.List.Sums.{sum_by-cons, sum_by-set, count_by-le-length}
use Rattle.ix_tables.specs.Places.{place_at}
use Rattle.ix_tables.proofs.VacantTables.{place_at-replicate}
use Rattle.ix_slotmap.specs.Generations.{SlotKey, SlotMapState, generation_at, place_value, slot_map_value, slot_map_len, slot_map_new, is_retired, DeadAreNotHeld}
use Rattle.ix_slottable.proofs.SlotTables.{place_at_past}

module _ {T : Type 0} where
  abbrev one_if_some : Option (Option T) → ℕ
  one_if_some content = if is_some content then 1 else 0

  abbrev pub one_if_held : Option (Option T) → ℕ
  one_if_held content = if is_some (option_flatten content) then 1 else 0

  abbrev pub one_if_retired : Option (Option T) → ℕ
  one_if_retired content = if is_retired content then 1 else 0

  one_of : (content : Option (Option T)) → one_if_some content ≡ one_if_held content + one_if_retired content
  one_of None = refl
  one_of (Some None) = refl
  one_of (Some (Some x)) = refl

  -- a place that is not free holds a value or is retired
  pub held_count-parts : (values : List (Option (Option T))) → count_by is_some values ≡ count_by (λ content. is_some (option_flatten content)) values + count_by is_retired values
  held_count-parts [] = refl
  held_count-parts (content ∷ values) =
      let later = held_count-parts values in
      let one = one_of content in
      let all = sum_by-cons one_if_some content values in
      let held = sum_by-cons one_if_held content values in
      let retired = sum_by-cons one_if_retired content values in omega arith

  -- the place of a value is not retired, so that there is room for one more retired place
  pub retired_count-room : (values : List (Option (Option T))) (place : ℕ) (value : T) → place < length values → place_at values place ≡ Some (Some value) → count_by is_retired values < length values
  retired_count-room values place value below at =
      let all = sum_by-set one_if_retired values place (Some None) None below in
      let was : one_if_retired (place_at values place) ≡ 0 = ap one_if_retired at in
      let most = count_by-le-length is_retired (set values place (Some None)) in
      let same = length-set values place (Some None) in omega arith

  pub if_none : (b : Bool) (value : Option T) → value ≡ None → (if b then value else None) ≡ None
  if_none true value is = is
  if_none false value is = refl

  pub slot_map_value-dead : (s : SlotMapState T) → DeadAreNotHeld s
  slot_map_value-dead s key (inl past) = if_none _ _ (ap option_flatten (place_at_past s.slots.values key.index past))
  slot_map_value-dead s key (inr (inl retired)) = if_none _ _ (ap option_flatten retired)
  slot_map_value-dead s key (inr (inr lower)) =
      let no : nat_eq (generation_at s key.index) key.generation ≡ false = grind (arith, nat_tests) in
      ap (λ b. if b then place_value s key.index else None) no

  -- a new map has no key, and each place is free
  module _ (s : SlotMapState T) (capacity generation : ℕ) (is : s ≡ slot_map_new capacity generation) where
    pub slot_map_value-new : (key : SlotKey) → slot_map_value s key ≡ None
    slot_map_value-new key = if_none _ _ (ap (λ (t : SlotMapState T). place_value t key.index) is ∙ ap option_flatten (place_at-replicate capacity key.index))

    pub slot_map_len-new : slot_map_len s ≡ 0
    slot_map_len-new = ap slot_map_len is ∙ (sum_by-replicate one_if_held capacity None ∙ (omega arith))

    pub free-new : length s.slots.free ≡ capacity
    free-new = ap (λ (t : SlotMapState T). length t.slots.free) is ∙ length-range_with_len 0 capacity

  pub free_of_usable : (content : Option (Option T)) → option_flatten content ≡ None → (content ≡ Some None → ⊥) → content ≡ None
  free_of_usable None empty unretired = refl
  free_of_usable (Some None) empty unretired = absurd (unretired refl)
  free_of_usable (Some (Some x)) empty unretired = absurd (cc)
