-- What the calls of a closure leave of each key of a slot map, if the closure stays as it was.
use Rattle.std.proofs.Common.{◌≡◌, ℕ, zero, suc, ◌+◌, ◌<◌, ◌≤◌, List, [], ◌∷◌, length, map, Bool, true, false, Option, Some, None, refl, sym, ap, ap₂, ◌∙◌, subst, arith}
use Rattle.std.specs.Prelude.{is_some, nat_eq, if◌then◌else◌, option_map}
use Rattle.std.specs.Borrow.{MutBor}
use Rattle.std.specs.List.{FoldsTo}
use Rattle.std.specs.Option.{option_flatten}
use Rattle.std.proofs.lemmas.Bool.{eqb-true}
use Rattle.std.proofs.lemmas.List.{get_or-set_same}
use Rattle.ix_tables.specs.Places.{place_at}
use Rattle.ix_tables.proofs.Places.{place_at_within}
use Rattle.ix_slottable.specs.SlotTableState.{value_at, entries_from}
use Rattle.ix_slottable.specs.SlotTableCalls.{ComputesTest, ComputesValue, ChangesItem, RetainsItem, option_filter}
use Rattle.ix_slottable.proofs.Outcomes.{becomes_at_each}
use Rattle.ix_slotmap.specs.Generations.{SlotKey, SlotMapState, generation_at, key_at, place_value, slot_map_value, held_entries, slot_map_entries}
use Rattle.ix_slotmap.specs.SlotMapSteps.{is_raisable, slot_map_set, slot_map_remove, slot_map_set_at, slot_map_vacate, slot_map_retire, slot_map_remove_at}
use Rattle.ix_slotmap.proofs.Generations.{if_none}
use Rattle.ix_slotmap.proofs.SlotMapCalls.{content_of, slot_map_value-key_at, place_value-slot_map_set_at_same, SettlesPlace-slot_map_set_at, SettlesPlace-retained}

abbrev numbered : ℕ → ℕ → SlotKey
numbered place generation = record { index = place; generation = generation }

module _ {T : Type 0} where
  -- a place as keys see it: the value in it, and its generation
  abbrev seen : SlotMapState T → ℕ → Option T × ℕ
  seen s place = (place_value s place, generation_at s place)

  -- what a key of this generation finds there
  abbrev found : Option T × ℕ → ℕ → Option T
  found place generation = if nat_eq place.1 generation then place.0 else None

  held_entries-places : (s : SlotMapState T) (start : ℕ) (places : List (Option (Option T)))
      → held_entries s (entries_from start places) ≡ map (λ entry. (key_at s entry.0, entry.1)) (entries_from start (map option_flatten places))
  held_entries-places s start [] = refl
  held_entries-places s start (None ∷ places) = held_entries-places s (start + 1) places
  held_entries-places s start (Some None ∷ places) = held_entries-places s (start + 1) places
  held_entries-places s start (Some (Some value) ∷ places) =
      ap (λ items. (key_at s start, value) ∷ items) (held_entries-places s (start + 1) places)

  place_at-flatten : (places : List (Option (Option T))) (i : ℕ) → option_flatten (place_at places i) ≡ place_at (map option_flatten places) i
  place_at-flatten [] i = refl
  place_at-flatten (place ∷ places) zero = refl
  place_at-flatten (place ∷ places) (suc i) = place_at-flatten places i

  place_value-slot_map_remove_at : (s : SlotMapState T) (place : ℕ) (value : T) → place_value s place ≡ Some value → place_value (slot_map_remove_at s place) place ≡ None
  place_value-slot_map_remove_at s place value at =
      ap (λ content. place_value (if is_some content then (if is_raisable s place then slot_map_vacate s place else slot_map_retire s place) else s) place) (slot_map_value-key_at s place ∙ at)
      ∙ either (is_raisable s place)
    where
      below : place < length s.slots.values
      below = place_at_within s.slots.values place (Some value) (content_of (value_at s.slots place) value at)

      either : (b : Bool) → place_value (if b then slot_map_vacate s place else slot_map_retire s place) place ≡ None
      either true = ap option_flatten (get_or-set_same s.slots.values place None None below)
      either false = ap option_flatten (get_or-set_same s.slots.values place (Some None) None below)

  -- what becomes of the value that a key finds; where it finds none, it finds none afterwards
  module _ (become : SlotKey → Option T → Option T) (none : (key : SlotKey) → become key None ≡ None) (place : ℕ) (old now : Option T × ℕ) (value : T) (at : old.0 ≡ Some value) where
    found-kept : now.1 ≡ old.1 → now.0 ≡ become (numbered place old.1) (Some value) → (generation : ℕ) → found now generation ≡ become (numbered place generation) (found old generation)
    found-kept same is generation = ap (λ n. if nat_eq n generation then now.0 else None) same ∙ go (nat_eq old.1 generation) refl
      where
        go : (b : Bool) → nat_eq old.1 generation ≡ b → (if b then now.0 else None) ≡ become (numbered place generation) (if b then old.0 else None)
        go true equal = is ∙ ap₂ (λ n content. become (numbered place n) content) (eqb-true old.1 generation equal) (sym at)
        go false equal = sym (none (numbered place generation))

    found-removed : now.0 ≡ None → become (numbered place old.1) (Some value) ≡ None → (generation : ℕ) → found now generation ≡ become (numbered place generation) (found old generation)
    found-removed gone is generation = if_none (nat_eq now.1 generation) now.0 gone ∙ go (nat_eq old.1 generation) refl
      where
        go : (b : Bool) → nat_eq old.1 generation ≡ b → None ≡ become (numbered place generation) (if b then old.0 else None)
        go true equal = sym is ∙ ap₂ (λ n content. become (numbered place n) content) (eqb-true old.1 generation equal) (sym at)
        go false equal = sym (none (numbered place generation))

  found-retained : (test : SlotKey → T → Bool) (s : SlotMapState T) (place : ℕ) (value left : T) (keep : Bool) (new : SlotMapState T) → place_value s place ≡ Some value
      → keep ≡ test (key_at s place) value → left ≡ value → new ≡ (if keep then slot_map_set_at s place left else slot_map_remove_at s place)
      → (generation : ℕ) → found (seen new place) generation ≡ option_filter (test (numbered place generation)) (found (seen s place) generation)
  found-retained test s place value left true new at passes same is =
      found-kept (λ key. option_filter (test key)) (λ key. refl) place (seen s place) (seen new place) value at
      (ap (λ (t : SlotMapState T). generation_at t place) is)
      (ap (λ (t : SlotMapState T). place_value t place) is ∙ place_value-slot_map_set_at_same s place value left at ∙ ap Some same ∙ ap (λ (b : Bool). if b then Some value else None) passes)
  found-retained test s place value left false new at passes same is =
      found-removed (λ key. option_filter (test key)) (λ key. refl) place (seen s place) (seen new place) value at
      (ap (λ (t : SlotMapState T). place_value t place) is ∙ place_value-slot_map_remove_at s place value at)
      (sym (ap (λ (b : Bool). if b then Some value else None) passes))

  module _ {F : Type 0} (f : F) (s : SlotMapState T) (last : F) (new : SlotMapState T) where
    -- the places from this one on have the generations that they had
    abbrev AreUnvisited : ℕ → SlotMapState T → Type 0
    AreUnvisited start t = (other : ℕ) → start ≤ other → generation_at t other ≡ generation_at s other

    same_key : (t : SlotMapState T) (place : ℕ) → AreUnvisited place t → key_at t place ≡ key_at s place
    same_key t place good = ap (numbered place) (good place (omega arith))

    pub RetainsItem-keys_filter : (step : F → SlotKey → MutBor T → Bool → MutBor T → F → Type 0) (test : SlotKey → T → Bool) → ComputesTest step f test
        → FoldsTo (RetainsItem slot_map_set slot_map_remove step) (f, s) (slot_map_entries s) (last, new) → (key : SlotKey) → slot_map_value new key ≡ option_filter (test key) (slot_map_value s key)
    RetainsItem-keys_filter step test tests folds key =
        becomes_at_each seen (λ place. place.0) (λ place value. (key_at s place, value)) (RetainsItem slot_map_set slot_map_remove step) f AreUnvisited
        (λ place old now. (generation : ℕ) → found now generation ≡ option_filter (test (numbered place generation)) (found old generation))
        (λ place t good other past. good other (omega arith))
        (λ place old none generation. let gone = if_none (nat_eq old.1 generation) old.0 none in gone ∙ sym (ap (option_filter (test (numbered place generation))) gone))
        (λ t place value q good at called.
        let says = tests (key_at s place) value called.0 called.1 q.0 called.2 in
        let same = same_key t place good in
        let is : q.1 ≡ (if called.0 then slot_map_set_at t place called.1 else slot_map_remove_at t place) =
        called.3 ∙ ap (λ k. if called.0 then slot_map_set_at t place called.1 else slot_map_remove t k) (sym same) in
        let settles = SettlesPlace-retained t place called.1 called.0 q.1 is in
        record {
          same = says.2;
          good = λ other past. settles.generations other (λ e. omega arith) ∙ good other (omega arith);
          kept = λ other apart. ap₂ (λ content generation. (content, generation)) (ap option_flatten (settles.kept other apart)) (settles.generations other apart);
          becomes = found-retained test t place value called.1 called.0 q.1 at (says.0 ∙ ap (λ k. test k value) (sym same)) says.1 is;
        })
        (map option_flatten s.slots.values) s last new (λ other past. refl) (place_at-flatten s.slots.values)
        (subst (λ items. FoldsTo (RetainsItem slot_map_set slot_map_remove step) (f, s) items (last, new)) (held_entries-places s 0 s.slots.values) folds) key.index key.generation

    pub ChangesItem-keys_map : (step : F → SlotKey → MutBor T → Unit {0} → MutBor T → F → Type 0) (change : SlotKey → T → T) → ComputesValue step f change
        → FoldsTo (ChangesItem slot_map_set step) (f, s) (slot_map_entries s) (last, new) → (key : SlotKey) → slot_map_value new key ≡ option_map (change key) (slot_map_value s key)
    ChangesItem-keys_map step change changes folds key =
        becomes_at_each seen (λ place. place.0) (λ place value. (key_at s place, value)) (ChangesItem slot_map_set step) f AreUnvisited
        (λ place old now. (generation : ℕ) → found now generation ≡ option_map (change (numbered place generation)) (found old generation))
        (λ place t good other past. good other (omega arith))
        (λ place old none generation. let gone = if_none (nat_eq old.1 generation) old.0 none in gone ∙ sym (ap (option_map (change (numbered place generation))) gone))
        (λ t place value q good at called.
        let says = changes (key_at s place) value called.0 q.0 called.1 in
        let settles = SettlesPlace-slot_map_set_at t place called.0 q.1 called.2 in
        record {
          same = says.1;
          good = λ other past. settles.generations other (λ e. omega arith) ∙ good other (omega arith);
          kept = λ other apart. ap₂ (λ content generation. (content, generation)) (ap option_flatten (settles.kept other apart)) (settles.generations other apart);
          becomes = found-kept (λ k. option_map (change k)) (λ k. refl) place (seen t place) (seen q.1 place) value at
              (ap (λ (u : SlotMapState T). generation_at u place) called.2)
              (ap (λ (u : SlotMapState T). place_value u place) called.2 ∙ place_value-slot_map_set_at_same t place value called.0 at ∙ ap Some says.0
              ∙ ap (λ k. Some (change k value)) (sym (same_key t place good)));
        })
        (map option_flatten s.slots.values) s last new (λ other past. refl) (place_at-flatten s.slots.values)
        (subst (λ items. FoldsTo (ChangesItem slot_map_set step) (f, s) items (last, new)) (held_entries-places s 0 s.slots.values) folds) key.index key.generation
