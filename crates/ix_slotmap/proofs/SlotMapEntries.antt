-- The entries of a slot map with generations: each held key once, in rising order of the indexes.
use Rattle.std.proofs.Common.{◌≡◌, ℕ, zero, suc, ◌+◌, ◌<◌, List, [], ◌∷◌, length, drop, map, inl, inr, IsSome, true, false, Bool, Option, Some, None, refl, sym, ap, ◌∙◌, arith}
use Rattle.std.specs.Prelude.{nat_eq, if◌then◌else◌, is_some, count_by}
use Rattle.std.specs.Option.{option_flatten}
use Rattle.std.specs.Map.{lookup}
use Rattle.std.proofs.lemmas.Bool.Decides.{nat_tests}
use Rattle.std.proofs.lemmas.List.Sums.{sum_by-cons}
use Rattle.ix_tables.specs.Places.{place_at}
use Rattle.ix_slottable.specs.SlotTableState.{value_at, entries_from}
use Rattle.ix_slotmap.specs.Generations.{SlotKey, slot_key_eq, SlotMapState, generation_at, key_at, place_value, held_entries, slot_map_entries, KeysRise, ListsExactly}
use Rattle.std.proofs.lemmas.Bool.{cases_lt}
use Rattle.std.proofs.lemmas.List.{at_drop_more}
use Rattle.ix_tables.proofs.Places.{place_at_within}
use Rattle.ix_slottable.proofs.SlotTables.{place_at_past}
use Rattle.ix_slottable.proofs.Entries.{Rises, Rises-none, Rises-weaken, Rises-cons, entries_from-none}

module _ {T : Type 0} (s : SlotMapState T) where
  Rises-held_entries : (start : ℕ) (places : List (Option (Option T))) → Rises start (map (λ item. item.0.index) (held_entries s (entries_from start places)))
  Rises-held_entries start [] = Rises-none start
  Rises-held_entries start (None ∷ places) = Rises-weaken start _ (Rises-held_entries (start + 1) places)
  Rises-held_entries start (Some None ∷ places) = Rises-weaken start _ (Rises-held_entries (start + 1) places)
  Rises-held_entries start (Some (Some value) ∷ places) = Rises-cons start _ (Rises-held_entries (start + 1) places)

  pub KeysRise-slot_map_entries : KeysRise (slot_map_entries s)
  KeysRise-slot_map_entries = (Rises-held_entries 0 s.slots.values).rise

  -- what is found of a key among the entries of places
  abbrev found : SlotKey → ℕ → List (Option (Option T)) → Option T
  found key start places = lookup (slot_key_eq key) (held_entries s (entries_from start places))

  found_below : (key : SlotKey) (start : ℕ) (places : List (Option (Option T))) → key.index < start → found key start places ≡ None
  found_below key start [] low = refl
  found_below key start (None ∷ places) low = found_below key (start + 1) places (omega arith)
  found_below key start (Some None ∷ places) low = found_below key (start + 1) places (omega arith)
  found_below key start (Some (Some value) ∷ places) low =
      let no : nat_eq key.index start ≡ false = grind (arith, nat_tests) in
      ap (λ b. if (if b then nat_eq (generation_at s start) key.generation else false) then Some value else found key (start + 1) places) no
      ∙ found_below key (start + 1) places (omega arith)

  -- the value in a place, if the place has the key's generation
  abbrev if_current : SlotKey → Option T → Option T
  if_current key value = if nat_eq (generation_at s key.index) key.generation then value else None

  if_current_none : (key : SlotKey) → None ≡ if_current key None
  if_current_none key = either (nat_eq (generation_at s key.index) key.generation)
    where
      either : (b : Bool) → None ≡ (if b then (let none : Option T = None in none) else None)
      either true = refl
      either false = refl

  found_at : (key : SlotKey) (start i : ℕ) (places : List (Option (Option T))) → key.index ≡ start + i → found key start places ≡ if_current key (option_flatten (place_at places i))
  found_at key start i [] is = if_current_none key
  found_at key start zero (None ∷ places) is = found_below key (start + 1) places (omega arith) ∙ if_current_none key
  found_at key start zero (Some None ∷ places) is = found_below key (start + 1) places (omega arith) ∙ if_current_none key
  found_at key start zero (Some (Some value) ∷ places) is =
      let yes : nat_eq key.index start ≡ true = grind (arith, nat_tests) in
      let here : start ≡ key.index = omega arith in
      ap (λ b. if (if b then nat_eq (generation_at s start) key.generation else false) then Some value else found key (start + 1) places) yes
      ∙ ap (λ rest. if nat_eq (generation_at s start) key.generation then Some value else rest) (found_below key (start + 1) places (omega arith))
      ∙ ap (λ n. if nat_eq (generation_at s n) key.generation then Some value else None) here
  found_at key start (suc i) (None ∷ places) is = found_at key (start + 1) i places (omega arith)
  found_at key start (suc i) (Some None ∷ places) is = found_at key (start + 1) i places (omega arith)
  found_at key start (suc i) (Some (Some value) ∷ places) is =
      let no : nat_eq key.index start ≡ false = grind (arith, nat_tests) in
      ap (λ b. if (if b then nat_eq (generation_at s start) key.generation else false) then Some value else found key (start + 1) places) no
      ∙ found_at key (start + 1) i places (omega arith)

  pub ListsExactly-slot_map_entries : ListsExactly (slot_map_entries s) s
  ListsExactly-slot_map_entries key = found_at key 0 key.index s.slots.values (omega arith)

  -- as many values are held as there are entries of them
  pub count_by-held : (start : ℕ) (places : List (Option (Option T))) → count_by (λ content. is_some (option_flatten content)) places ≡ length (held_entries s (entries_from start places))
  count_by-held start [] = refl
  count_by-held start (None ∷ places) = count_by-held (start + 1) places
  count_by-held start (Some None ∷ places) = count_by-held (start + 1) places
  count_by-held start (Some (Some value) ∷ places) =
      let one = sum_by-cons (λ (content : Option (Option T)). if is_some (option_flatten content) then 1 else 0) (Some (Some value)) places in
      let later = count_by-held (start + 1) places in omega arith

  -- a place without a value has no entry
  pub held_entries-skips : (index : ℕ) → index < length s.slots.values → (IsSome (place_value s index) → ⊥)
      → held_entries s (entries_from (index + 1) (drop (index + 1) s.slots.values)) ≡ held_entries s (entries_from index (drop index s.slots.values))
  held_entries-skips index below none =
      sym (at_drop_more (λ rest. held_entries s (entries_from index rest)) s.slots.values index None below ∙ go (value_at s.slots index) none)
    where
      go : (content : Option (Option T)) → (IsSome (option_flatten content) → ⊥)
          → held_entries s (entries_from index (content ∷ drop (index + 1) s.slots.values)) ≡ held_entries s (entries_from (index + 1) (drop (index + 1) s.slots.values))
      go None none = refl
      go (Some None) none = refl
      go (Some (Some value)) none = absurd (none refl)

  -- a place with a value has the first entry of those from it on
  pub held_entries-first : (index : ℕ) (value : T) → Some value ≡ place_value s index
      → held_entries s (entries_from index (drop index s.slots.values)) ≡ (key_at s index, value) ∷ held_entries s (entries_from (index + 1) (drop (index + 1) s.slots.values))
  held_entries-first index value is = go (value_at s.slots index) refl is
    where
      go : (content : Option (Option T)) → value_at s.slots index ≡ content → Some value ≡ option_flatten content
          → held_entries s (entries_from index (drop index s.slots.values)) ≡ (key_at s index, value) ∷ held_entries s (entries_from (index + 1) (drop (index + 1) s.slots.values))
      go None at is = absurd (cc)
      go (Some None) at is = absurd (cc)
      go (Some (Some held)) at is =
          let below = place_at_within s.slots.values index (Some held) at in
          let same : value ≡ held = cc in
          at_drop_more (λ rest. held_entries s (entries_from index rest)) s.slots.values index None below
          ∙ ap (λ content. held_entries s (entries_from index (content ∷ drop (index + 1) s.slots.values))) at
          ∙ ap (λ v. (key_at s index, v) ∷ held_entries s (entries_from (index + 1) (drop (index + 1) s.slots.values))) (sym same)

  -- places with entries are in range
  pub held_entries-within : (index : ℕ) → 0 < length (held_entries s (entries_from index (drop index s.slots.values))) → index < length s.slots.values
  held_entries-within index some = elim (cases_lt index (length s.slots.values)) [
    | inl below ↦ below
    | inr past ↦
        let none = ap (λ entries. length (held_entries s entries)) (entries_from-none index index s.slots.values (λ i from. place_at_past s.slots.values i (omega arith))) in
        let nothing : length (held_entries s []) ≡ 0 = refl in
        absurd (omega arith)
  ]
