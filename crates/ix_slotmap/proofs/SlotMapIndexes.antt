-- What calls of a slot map and of an index do to the two, if they are in step.
use Rattle.std.proofs.Common.{◌≡◌, ◌≢◌, ◌⊎◌, ℕ, inl, inr, refl, sym, ap, ap₂, subst, ◌∙◌, Bool, true, false, Option, Some, None}
use Rattle.std.specs.Prelude.{Decides, if◌then◌else◌, is_some, nat_eq, option_map, slice_get}
use Rattle.std.specs.Option.{option_flatten, option_map_or}
use Rattle.std.proofs.lemmas.Bool.{cases_eq, eqb-true}
use Rattle.std.proofs.lemmas.List.{get_or-set_other}
use Rattle.ix_slottable.specs.KeyIndexes.{IsIndexOf}
use Rattle.ix_slottable.specs.SlotTableSteps.{slot_table_fill}
pub use Rattle.ix_slottable.proofs.KeyIndexes.{nat_eq-Decides, IsIndexOf-held, IsIndexOf-empty}
use Rattle.ix_slottable.proofs.KeyIndexes.{some_same, IsIndexOf-inserted, IsIndexOf-removed}
use Rattle.ix_slotmap.specs.Generations.{SlotKey, SlotMapState, generation_at, key_at, place_value, slot_map_value}
use Rattle.ix_slotmap.specs.SlotMapSteps.{slot_map_fill, SlotMapInsert, SlotMapRemove}
use Rattle.ix_slotmap.proofs.Generations.{if_none, slot_map_value-dead}

abbrev key_of : ℕ → ℕ → SlotKey
key_of place generation = record { index = place; generation = generation }

cases_key : (a b : SlotKey) → (a ≡ b) ⊎ (a ≢ b)
cases_key a b = elim (cases_eq a.index b.index) [
  | inl places ↦ elim (cases_eq a.generation b.generation) [ inl generations ↦ inl (ap₂ key_of places generations) | inr apart ↦ inr (λ e. apart (ap (λ (key : SlotKey). key.generation) e)) ]
  | inr apart ↦ inr (λ e. apart (ap (λ (key : SlotKey). key.index) e))
]

module _ {T : Type 0} where
  -- every key but that of the place finds what it found
  slot_map_value-slot_map_fill : (s : SlotMapState T) (place : ℕ) (value : T) (other : SlotKey) → other ≢ key_at s place → slot_map_value (slot_map_fill s place value) other ≡ slot_map_value s other
  slot_map_value-slot_map_fill s place value other apart = go (nat_eq (generation_at s other.index) other.generation) refl
    where
      go : (b : Bool) → nat_eq (generation_at s other.index) other.generation ≡ b
          → (if b then place_value (slot_map_fill s place value) other.index else None) ≡ (if b then place_value s other.index else None)
      go true equal =
          let generation = sym (eqb-true (generation_at s other.index) other.generation equal) in
          ap option_flatten (get_or-set_other s.slots.values place other.index (Some (Some value)) None (λ same. apart (ap₂ key_of same (generation ∙ ap (generation_at s) same))))
      go false equal = refl

  -- a key that is inserted is that of the first free place, and every other key finds what it found
  pub SlotMapInsert-others : (old : SlotMapState T) (value : T) (new : SlotMapState T) (key : SlotKey) → SlotMapInsert old value new (Some key) → (other : SlotKey) → other ≢ key → slot_map_value new other ≡ slot_map_value old other
  SlotMapInsert-others old value new key step other apart = go (slice_get old.slots.free 0) refl
    where
      go : (first : Option ℕ) → slice_get old.slots.free 0 ≡ first → slot_map_value new other ≡ slot_map_value old other
      go None is = absurd (let none : Some key ≡ None = step.key ∙ ap (option_map (key_at old)) is in cc)
      go (Some place) is =
          let here : key ≡ key_at old place = some_same (step.key ∙ ap (option_map (key_at old)) is) in
          let filled : new ≡ slot_map_fill old place value =
          step.map ∙ ap (λ (first : Option ℕ). record { slots = option_map_or (λ k. slot_table_fill old.slots k (Some value)) first old.slots; generations = old.generations }) is in
          ap (λ s. slot_map_value s other) filled ∙ slot_map_value-slot_map_fill old place value other (λ same. apart (same ∙ sym here))

-- the premises are what the calls of a slot map and of a map promise
module _ {N V : Type 0} {name : V → N} {find find' : N → Option SlotKey} {old new : SlotMapState V} {eq : N → N → Bool} (decides : (a b : N) → Decides (eq a b) (a ≡ b)) where
  pub IsIndexOf-map_insert : {key : SlotKey} {value : V} {result : Option SlotKey} → IsIndexOf name find (slot_map_value old) → SlotMapInsert old value new result → result ≡ Some key
      → find (name value) ≡ None → find' (name value) ≡ Some key → ((other : N) → eq other (name value) ≡ false → find' other ≡ find other)
      → IsIndexOf name find' (slot_map_value new)
  IsIndexOf-map_insert {key} {value} {result} index step is =
      let inserted : SlotMapInsert old value new (Some key) = subst (SlotMapInsert old value new) is step in
      IsIndexOf-inserted decides cases_key index key value (if_none _ _ (ap option_flatten inserted.was_free.1)) inserted.holds (SlotMapInsert-others old value new key inserted)

  pub IsIndexOf-map_remove : {key : SlotKey} {result : Option V} → IsIndexOf name find (slot_map_value old) → SlotMapRemove old key new result
      → (sought : N) → find sought ≡ Some key → find' sought ≡ None → ((other : N) → eq other sought ≡ false → find' other ≡ find other)
      → IsIndexOf name find' (slot_map_value new)
  IsIndexOf-map_remove {key} index step sought at =
      IsIndexOf-removed decides cases_key index sought key (slot_map_value-dead new key (step.killed (ap is_some step.value ∙ IsIndexOf-held index sought key at))) step.kept at
