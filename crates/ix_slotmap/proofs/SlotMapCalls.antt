-- The calls that a slot map makes of a closure, one for each held key.
use Rattle.std.proofs.Common.{◌≡◌, ◌≢◌, ◌⊎◌, ℕ, ◌+◌, ◌<◌, ◌≤◌, ◌↔◌, inl, inr, List, [], ◌∷◌, ◌++◌, length, take, drop, IsSome, Bool, true, false, Option, Some, None, refl, sym, ap, ◌∙◌, subst, arith}
use Rattle.std.specs.Prelude.{is_some, nat_eq, if◌then◌else◌}
use Rattle.std.specs.Borrow.{MutBor}
use Rattle.std.specs.List.{FoldsTo}
use Rattle.std.specs.Option.{option_flatten}
use Rattle.std.proofs.lemmas.Bool.{cases_eq, eqb-true}
use Rattle.std.proofs.lemmas.Bool.Decides.{nat_tests}
use Rattle.std.proofs.lemmas.Fn.{FoldsTo-push}
use Rattle.std.proofs.lemmas.List.{append-nil, take_all, get_or-set_same, get_or-set_other, length-set, set-set}
use Rattle.ix_tables.proofs.Places.{place_at_within}
use Rattle.ix_slottable.specs.SlotTableState.{value_at, entries_from}
use Rattle.ix_slotmap.specs.Generations.{SlotKey, SlotMapState, generation_at, key_at, place_value, slot_map_value, IsDead, held_entries, slot_map_entries}
use Rattle.ix_slotmap.specs.SlotMapSteps.{is_raisable, slot_map_set_at, slot_map_vacate, slot_map_retire, slot_map_remove_at, SlotMapRemove}
use Rattle.ix_slottable.specs.SlotTableCalls.{SomeCallOn, IsCallableOnEach}
use Rattle.ix_slottable.proofs.SlotTableCalls.{FoldsTo-first, entries_from-take, entries_from-split}

pub keys_same : (key other : SlotKey) → key.index ≡ other.index → key.generation ≡ other.generation → key ≡ other
keys_same key other index generation =
    ap (λ (n : ℕ). let k : SlotKey = record { index = n; generation = key.generation } in k) index
    ∙ ap (λ (n : ℕ). let k : SlotKey = record { index = other.index; generation = n } in k) generation

module _ {T : Type 0} where
  -- a place with a value in it
  pub content_of : (content : Option (Option T)) (value : T) → option_flatten content ≡ Some value → content ≡ Some (Some value)
  content_of None value is = absurd (let no : None ≡ Some value = is in cc)
  content_of (Some None) value is = absurd (let no : None ≡ Some value = is in cc)
  content_of (Some (Some held)) value is = ap Some is

  -- the key of a place has the value in it
  pub slot_map_value-key_at : (s : SlotMapState T) (place : ℕ) → slot_map_value s (key_at s place) ≡ place_value s place
  slot_map_value-key_at s place =
      let yes : nat_eq (generation_at s place) (generation_at s place) ≡ true = grind (arith, nat_tests) in
      ap (λ b. if b then place_value s place else None) yes

  module _ (s : SlotMapState T) (place : ℕ) (value left : T) (at : place_value s place ≡ Some value) where
    below : place < length s.slots.values
    below = place_at_within s.slots.values place (Some value) (content_of (value_at s.slots place) value at)

    pub place_value-slot_map_set_at_same : place_value (slot_map_set_at s place left) place ≡ Some left
    place_value-slot_map_set_at_same = ap option_flatten (get_or-set_same s.slots.values place (Some (Some left)) None below)

    place_value-slot_map_set_at_other : (other : ℕ) → other ≢ place → place_value (slot_map_set_at s place left) other ≡ place_value s other
    place_value-slot_map_set_at_other other apart = ap option_flatten (get_or-set_other s.slots.values place other (Some (Some left)) None apart)

    -- a held key that got another value is held, and so is every other key that was
    pub held-slot_map_set_at : (key : SlotKey) → IsSome (slot_map_value (slot_map_set_at s place left) key) ↔ IsSome (slot_map_value s key)
    held-slot_map_set_at key = elim (cases_eq key.index place) [
      | inl here ↦
          let now : place_value (slot_map_set_at s place left) key.index ≡ Some left = ap (place_value (slot_map_set_at s place left)) here ∙ place_value-slot_map_set_at_same in
          let was : place_value s key.index ≡ Some value = ap (place_value s) here ∙ at in
          either (nat_eq (generation_at s key.index) key.generation) _ _ (λ _. subst IsSome (sym was) refl, λ _. subst IsSome (sym now) refl)
      | inr there ↦
          let same = place_value-slot_map_set_at_other key.index there in
          either (nat_eq (generation_at s key.index) key.generation) _ _ (λ held. subst IsSome same held, λ held. subst IsSome (sym same) held)
    ]
      where
        either : (b : Bool) (x y : Option T) → (IsSome x ↔ IsSome y) → IsSome (if b then x else None) ↔ IsSome (if b then y else None)
        either true x y same = same
        either false x y same = (λ held. held, λ held. held)

    -- a dead key stays dead where another value is written
    pub IsDead-slot_map_set_at : (key : SlotKey) → IsDead s key → IsDead (slot_map_set_at s place left) key
    IsDead-slot_map_set_at key (inl past) = inl (let same = length-set s.slots.values place (Some (Some left)) in omega arith)
    IsDead-slot_map_set_at key (inr (inl retired)) =
        let apart : key.index ≢ place = λ here. (
        let held : Some value ≡ None = sym at ∙ ap (place_value s) (sym here) ∙ ap option_flatten retired in absurd (cc)
        ) in
        inr (inl (get_or-set_other s.slots.values place key.index (Some (Some left)) None apart ∙ retired))
    IsDead-slot_map_set_at key (inr (inr lower)) = inr (inr lower)

    -- a value that is written first is removed all the same
    pub slot_map_remove_at-slot_map_set_at : slot_map_remove_at (slot_map_set_at s place left) place ≡ slot_map_remove_at s place
    slot_map_remove_at-slot_map_set_at =
        let now = slot_map_value-key_at (slot_map_set_at s place left) place ∙ place_value-slot_map_set_at_same in
        let was = slot_map_value-key_at s place ∙ at in
        ap (λ content. if is_some content then (if is_raisable s place then slot_map_vacate (slot_map_set_at s place left) place else slot_map_retire (slot_map_set_at s place left) place) else slot_map_set_at s place left) now
        ∙ either (is_raisable s place)
        ∙ sym (ap (λ content. if is_some content then (if is_raisable s place then slot_map_vacate s place else slot_map_retire s place) else s) was)
      where
        either : (b : Bool) → (if b then slot_map_vacate (slot_map_set_at s place left) place else slot_map_retire (slot_map_set_at s place left) place) ≡ (if b then slot_map_vacate s place else slot_map_retire s place)
        either true = ap (λ places. let t : SlotMapState T = record { slots = record { values = places; free = place ∷ s.slots.free }; generations = (slot_map_vacate s place).generations } in t) (set-set s.slots.values place (Some (Some left)) None)
        either false = ap (λ places. let t : SlotMapState T = record { slots = record { values = places; free = s.slots.free }; generations = s.generations } in t) (set-set s.slots.values place (Some (Some left)) (Some None))

  -- a place whose value is written or removed leaves the others
  pub record SettlesPlace (s : SlotMapState T) (place : ℕ) (new : SlotMapState T) : Type 0 where
    pub capacity : length new.slots.values ≡ length s.slots.values
    pub kept : (other : ℕ) → other ≢ place → value_at new.slots other ≡ value_at s.slots other
    pub generations : (other : ℕ) → other ≢ place → generation_at new other ≡ generation_at s other

  pub SettlesPlace-slot_map_set_at : (s : SlotMapState T) (place : ℕ) (left : T) (new : SlotMapState T) → new ≡ slot_map_set_at s place left → SettlesPlace s place new
  SettlesPlace-slot_map_set_at s place left new is = record {
    capacity = ap (λ (t : SlotMapState T). length t.slots.values) is ∙ length-set s.slots.values place (Some (Some left));
    kept = λ other apart. ap (λ (t : SlotMapState T). value_at t.slots other) is ∙ get_or-set_other s.slots.values place other (Some (Some left)) None apart;
    generations = λ other apart. ap (λ (t : SlotMapState T). generation_at t other) is;
  }

  pub SettlesPlace-slot_map_remove_at : (s : SlotMapState T) (place : ℕ) (new : SlotMapState T) → new ≡ slot_map_remove_at s place → SettlesPlace s place new
  SettlesPlace-slot_map_remove_at s place new is = go (is_some (slot_map_value s (key_at s place))) (is_raisable s place) is
    where
      go : (held raisable : Bool) → new ≡ (if held then (if raisable then slot_map_vacate s place else slot_map_retire s place) else s) → SettlesPlace s place new
      go true true is = record {
        capacity = ap (λ (t : SlotMapState T). length t.slots.values) is ∙ length-set s.slots.values place None;
        kept = λ other apart. ap (λ (t : SlotMapState T). value_at t.slots other) is ∙ get_or-set_other s.slots.values place other None None apart;
        generations = λ other apart. ap (λ (t : SlotMapState T). generation_at t other) is ∙ get_or-set_other s.generations place other (generation_at s place + 1) 0 apart;
      }
      go true false is = record {
        capacity = ap (λ (t : SlotMapState T). length t.slots.values) is ∙ length-set s.slots.values place (Some None);
        kept = λ other apart. ap (λ (t : SlotMapState T). value_at t.slots other) is ∙ get_or-set_other s.slots.values place other (Some None) None apart;
        generations = λ other apart. ap (λ (t : SlotMapState T). generation_at t other) is;
      }
      go false raisable is = record {
        capacity = ap (λ (t : SlotMapState T). length t.slots.values) is;
        kept = λ other apart. ap (λ (t : SlotMapState T). value_at t.slots other) is;
        generations = λ other apart. ap (λ (t : SlotMapState T). generation_at t other) is;
      }

  pub SettlesPlace-retained : (s : SlotMapState T) (place : ℕ) (left : T) (keep : Bool) (new : SlotMapState T) → new ≡ (if keep then slot_map_set_at s place left else slot_map_remove_at s place) → SettlesPlace s place new
  SettlesPlace-retained s place left true new is = SettlesPlace-slot_map_set_at s place left new is
  SettlesPlace-retained s place left false new is = SettlesPlace-slot_map_remove_at s place new is

  module _ (s : SlotMapState T) where
    pub held_entries-append : (front back : List (ℕ × Option T)) → held_entries s (front ++ back) ≡ held_entries s front ++ held_entries s back
    held_entries-append [] back = refl
    held_entries-append ((place, None) ∷ front) back = held_entries-append front back
    held_entries-append ((place, Some value) ∷ front) back = ap (λ items. (key_at s place, value) ∷ items) (held_entries-append front back)

    -- the entries of the places before this one
    abbrev pub entries_before : ℕ → List (SlotKey × T)
    entries_before place = held_entries s (entries_from 0 (take place s.slots.values))

    entries_before-next : (place : ℕ) → place < length s.slots.values → entries_before (place + 1) ≡ entries_before place ++ held_entries s (entries_from place (value_at s.slots place ∷ []))
    entries_before-next place below =
        ap (held_entries s) (entries_from-take s.slots.values place _ below refl)
        ∙ held_entries-append (entries_from 0 (take place s.slots.values)) (entries_from place (value_at s.slots place ∷ []))

    entries_before-without : (place : ℕ) → place < length s.slots.values → place_value s place ≡ None → entries_before (place + 1) ≡ entries_before place
    entries_before-without place below none = entries_before-next place below ∙ ap (λ items. entries_before place ++ items) (go (value_at s.slots place) none) ∙ append-nil _
      where
        go : (content : Option (Option T)) → option_flatten content ≡ None → held_entries s (entries_from place (content ∷ [])) ≡ []
        go None none = refl
        go (Some None) none = refl
        go (Some (Some value)) none = absurd (cc)

    entries_before-with : (place : ℕ) (value : T) → place_value s place ≡ Some value → entries_before (place + 1) ≡ entries_before place ++ (key_at s place, value) ∷ []
    entries_before-with place value at =
        let content = content_of (value_at s.slots place) value at in
        entries_before-next place (place_at_within s.slots.values place (Some value) content)
        ∙ ap (λ c. entries_before place ++ held_entries s (entries_from place (c ∷ []))) content

    slot_map_entries-split : (place : ℕ) (value : T) → place_value s place ≡ Some value
        → slot_map_entries s ≡ entries_before place ++ (key_at s place, value) ∷ held_entries s (entries_from (place + 1) (drop (place + 1) s.slots.values))
    slot_map_entries-split place value at =
        ap (held_entries s) (entries_from-split s.slots.values place (Some value) (content_of (value_at s.slots place) value at))
        ∙ held_entries-append (entries_from 0 (take place s.slots.values)) ((place, Some value) ∷ entries_from (place + 1) (drop (place + 1) s.slots.values))

  module _ {F : Type 0} (R : F × SlotMapState T → SlotKey × T → F × SlotMapState T → Type 0) (f : F) (s : SlotMapState T) where
    -- the closure was called with the held keys of the places before this one, and the others are as they were
    pub record VisitedPlaces (place : ℕ) (later : F) (now : SlotMapState T) : Type 0 where
      pub capacity : length now.slots.values ≡ length s.slots.values
      pub calls : FoldsTo R (f, s) (entries_before s place) (later, now)
      pub rest : (other : ℕ) → place ≤ other → value_at now.slots other ≡ value_at s.slots other
      pub generations : (other : ℕ) → place ≤ other → generation_at now other ≡ generation_at s other

    pub VisitedPlaces-without : (place : ℕ) (later : F) (now : SlotMapState T) → VisitedPlaces place later now → place < length s.slots.values → place_value now place ≡ None → VisitedPlaces (place + 1) later now
    VisitedPlaces-without place later now visited below none = record {
      capacity = visited.capacity;
      calls = subst (λ items. FoldsTo R (f, s) items (later, now)) (sym (entries_before-without s place below (sym (ap option_flatten (visited.rest place (omega arith))) ∙ none))) visited.calls;
      rest = λ other past. visited.rest other (omega arith);
      generations = λ other past. visited.generations other (omega arith);
    }

    -- the key that the place has now is the one that it had
    pub key_at-visited : (place : ℕ) (later : F) (now : SlotMapState T) → VisitedPlaces place later now → key_at now place ≡ key_at s place
    key_at-visited place later now visited =
        ap (λ n. let key : SlotKey = record { index = place; generation = n } in key) (visited.generations place (omega arith))

    pub VisitedPlaces-with : (place : ℕ) (later next : F) (now new : SlotMapState T) (value : T) → VisitedPlaces place later now → place_value now place ≡ Some value
        → R (later, now) (key_at now place, value) (next, new) → SettlesPlace now place new → VisitedPlaces (place + 1) next new
    VisitedPlaces-with place later next now new value visited at step settles =
        let was : place_value s place ≡ Some value = sym (ap option_flatten (visited.rest place (omega arith))) ∙ at in
        record {
          capacity = settles.capacity ∙ visited.capacity;
          calls = subst (λ items. FoldsTo R (f, s) items (next, new)) (sym (entries_before-with s place value was))
              (FoldsTo-push R (f, s) _ (later, now) (key_at s place, value) (next, new) visited.calls (subst (λ key. R (later, now) (key, value) (next, new)) (key_at-visited place later now visited) step));
          rest = λ other past. settles.kept other (λ e. omega arith) ∙ visited.rest other (omega arith);
          generations = λ other past. settles.generations other (λ e. omega arith) ∙ visited.generations other (omega arith);
        }

    pub VisitedPlaces-all : (place : ℕ) (later : F) (now : SlotMapState T) → VisitedPlaces place later now → length s.slots.values ≤ place → FoldsTo R (f, s) (slot_map_entries s) (later, now)
    VisitedPlaces-all place later now visited past =
        subst (λ places. FoldsTo R (f, s) (held_entries s (entries_from 0 places)) (later, now)) (take_all place s.slots.values past) visited.calls

    pub VisitedPlaces-callable : {A : Type 0} (step : F → SlotKey → MutBor T → A → MutBor T → F → Type 0) (pre : F → SlotKey → MutBor T → Type 0) (place : ℕ) (later : F) (now : SlotMapState T) (key : SlotKey) (shown : MutBor T)
        → ((p q : F × SlotMapState T) (x : SlotKey × T) → R p x q → SomeCallOn step p.0 x q.0)
        → IsCallableOnEach step pre f (slot_map_entries s) → VisitedPlaces place later now → key ≡ key_at now place → place_value now place ≡ Some shown.now → pre later key shown
    VisitedPlaces-callable step pre place later now key shown each callable visited is at =
        subst (λ k. pre later k shown) (sym (is ∙ key_at-visited place later now visited))
        (callable.at _ _ (key_at s place) shown later (slot_map_entries-split s place shown.now (sym (ap option_flatten (visited.rest place (omega arith))) ∙ at)) (FoldsTo-first R (SomeCallOn step) each _ _ _ visited.calls))

module _ {T : Type 0} where
  -- a held key is that of its place, which has a value in it
  pub held_key : (s : SlotMapState T) (key : SlotKey) → IsSome (slot_map_value s key) → (key ≡ key_at s key.index) × IsSome (place_value s key.index)
  held_key s key held = go (nat_eq (generation_at s key.index) key.generation) refl held
    where
      go : (b : Bool) → nat_eq (generation_at s key.index) key.generation ≡ b → IsSome (if b then place_value s key.index else None) → (key ≡ key_at s key.index) × IsSome (place_value s key.index)
      go true same held = (keys_same key (key_at s key.index) refl (sym (eqb-true (generation_at s key.index) key.generation same)), held)
      go false same held = absurd (cc)

  -- each key that was held still is or is dead, and a dead key stays dead
  pub record Outlives (s new : SlotMapState T) : Type 0 where
    pub held : (key : SlotKey) → IsSome (slot_map_value s key) → IsSome (slot_map_value new key) ⊎ IsDead new key
    pub dead : (key : SlotKey) → IsDead s key → IsDead new key

  pub Outlives-slot_map_set_at : (s : SlotMapState T) (place : ℕ) (value left : T) (new : SlotMapState T) → place_value s place ≡ Some value → new ≡ slot_map_set_at s place left → Outlives s new
  Outlives-slot_map_set_at s place value left new at is = subst (Outlives s) (sym is) (record {
    held = λ key held. inl ((held-slot_map_set_at s place value left at key).1 held);
    dead = λ key dead. IsDead-slot_map_set_at s place value left at key dead;
  })

  pub Outlives-removed : (s : SlotMapState T) (key : SlotKey) (new : SlotMapState T) (result : Option T) → SlotMapRemove s key new result → IsSome result → Outlives s new
  Outlives-removed s key new result step some = record {
    held = λ other held. elim (cases_eq other.index key.index) [
      | inl index ↦ elim (cases_eq other.generation key.generation) [
        | inl generation ↦ inr (subst (IsDead new) (sym (keys_same other key index generation)) (step.killed some))
        | inr apart ↦ inl (subst IsSome (sym (step.kept other (λ e. apart (ap (λ (k : SlotKey). k.generation) e)))) held)
      ]
      | inr apart ↦ inl (subst IsSome (sym (step.kept other (λ e. apart (ap (λ (k : SlotKey). k.index) e)))) held)
    ];
    dead = step.dead;
  }

  pub Outlives-both : (s t new : SlotMapState T) → Outlives s t → Outlives t new → Outlives s new
  Outlives-both s t new first second = record {
    held = λ key held. elim (first.held key held) [
      | inl still ↦ second.held key still
      | inr dead ↦ inr (second.dead key dead)
    ];
    dead = λ key dead. second.dead key (first.dead key dead);
  }
