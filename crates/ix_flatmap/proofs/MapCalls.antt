-- The calls that a flat map makes of a closure with its keys: those that listing the keys makes, and those with a key and its value.
use Rattle.std.proofs.Common.{◌≡◌, ℕ, suc, ◌+◌, ◌≤◌, List, [], ◌∷◌, ◌++◌, length, map, take, drop, Bool, true, false, Option, Some, None, IsSome, refl, sym, ap, ap₂, ◌∙◌, subst, inl, inr, arith}
use Rattle.std.specs.Prelude.{if◌then◌else◌, is_some, option_map}
use Rattle.std.specs.Option.{option_map_or}
use Rattle.std.specs.Cmp.{IsEquivalence}
use Rattle.std.specs.Fn.{Mut, Called, CalledAt}
use Rattle.std.specs.Borrow.{Bor, MutBor}
use Rattle.std.specs.List.{FoldsTo}
use Rattle.std.proofs.lemmas.Bool.{cases_eq}
use Rattle.std.proofs.lemmas.List.{append-nil, map-append, take-append-drop, get_or-set_same, get_or-set_other}
use Rattle.ix_tables.specs.Places.{place_at}
use Rattle.ix_tables.proofs.Places.{place_at_within}
use Rattle.ix_slottable.specs.SlotTableState.{SlotTableState, value_at, entries, entries_from}
use Rattle.ix_slottable.specs.SlotTableSteps.{slot_table_set, slot_table_vacate, slot_table_remove, SlotTableRemove}
use Rattle.ix_slottable.specs.SlotTableCalls.{CalledOn, SomeCallOn, IsCallableOnEach}
use Rattle.ix_flatmap.specs.MapState.{HasDistinctKeys, map_entry, map_value, map_keys, map_item, map_items}
use Rattle.ix_flatmap.specs.MapSteps.{ListsUntilStop, map_set, map_remove}
use Rattle.ix_flatmap.specs.MapCalls.{CallAtKey}
use Rattle.ix_flatmap.specs.declared.map.pair.Pair.{Pair}
use Rattle.ix_flatmap.specs.declared.map.callback_progression.CallbackProgression.{CallbackProgression}
use Rattle.ix_flatmap.specs.declared.map.callback_progression.CallbackProgression.TheVariants.{Continue, Stop}
use Rattle.ix_slottable.proofs.Entries.{entries_from-none}
use Rattle.ix_slottable.proofs.SlotTableCalls.{FoldsTo-first, entries_from-append, entries_from-split, Visited}
use Rattle.ix_flatmap.proofs.MapEntries.{IsEntry-map_entry, map_entry-IsEntry, map_value-IsEntry}
use Rattle.ix_flatmap.proofs.MapSteps.{map_set-found}

module _ {F K : Type 0} (calls : Mut F (Bor K × Unit {0}) CallbackProgression) (f next : F) where
  CalledAt-returned : (key : K) (answer is : CallbackProgression) (shown : Bor K) → shown.now ≡ key → Called calls f (shown, tt) answer next → answer ≡ is → CalledAt calls f key is next
  CalledAt-returned key answer is shown shows called same =
      subst (λ a. CalledAt calls f key a next) same (record { shown = shown; shows = shows; called = called })

  pub ListsUntilStop-continue : (last : F) (key : K) (keys : List K) (answer : CallbackProgression) (shown : Bor K) → shown.now ≡ key → Called calls f (shown, tt) answer next → answer ≡ Continue → ListsUntilStop calls next keys last → ListsUntilStop calls f (key ∷ keys) last
  ListsUntilStop-continue last key keys answer shown shows called goes_on later = (next, inr (CalledAt-returned key answer Continue shown shows called goes_on, later))

  pub ListsUntilStop-stop : (key : K) (keys : List K) (answer : CallbackProgression) (shown : Bor K) → shown.now ≡ key → Called calls f (shown, tt) answer next → answer ≡ Stop → ListsUntilStop calls f (key ∷ keys) next
  ListsUntilStop-stop key keys answer shown shows called stops = (next, inl (CalledAt-returned key answer Stop shown shows called stops, refl))

FoldsTo-map : {P A B : Type 0} (R : P → B → P → Type 0) (g : A → B) (items : List A) (p q : P) → FoldsTo (λ p x q. R p (g x) q) p items q → FoldsTo R p (map g items) q
FoldsTo-map R g [] p q folds = folds
FoldsTo-map R g (x ∷ items) p q folds = (folds.0, folds.1, FoldsTo-map R g items folds.0 q folds.2)

module _ {T : Type 0} where
  -- all entries lie before the places that have none
  entries_from-bounded : (s : SlotTableState T) (bound : ℕ) → ((place : ℕ) → bound ≤ place → value_at s place ≡ None) → entries_from 0 (take bound s.values) ≡ entries s
  entries_from-bounded s bound none =
      let front = entries_from 0 (take bound s.values) in
      sym (append-nil front)
      ∙ ap (λ rest. front ++ rest) (sym (entries_from-none bound (0 + length (take bound s.values)) s.values none))
      ∙ sym (entries_from-append 0 (take bound s.values) (drop bound s.values))
      ∙ ap (entries_from 0) (take-append-drop bound s.values)

module _ {K V : Type 0} where
  -- each place has the key that it had
  abbrev pub SameKeys : SlotTableState (Pair K V) → SlotTableState (Pair K V) → Type 0
  SameKeys s new = (place : ℕ) → option_map (λ pair. pair.key) (value_at new place) ≡ option_map (λ pair. pair.key) (value_at s place)

  -- the pair at a place was lent to a call, which left another value there
  pub called_at_place : {F R : Type 0} (step : F → Bor K → MutBor V → R → MutBor V → F → Type 0) (s inside : SlotTableState (Pair K V)) (place : ℕ) (pair here : Pair K V) (f : F) (lent : Bor K) (shown : MutBor V) (r : R) (after : MutBor V) (next : F)
      → inside ≡ s → value_at s place ≡ Some pair → value_at inside place ≡ Some here → lent.now ≡ here.key → shown.now ≡ here.value → step f lent shown r after next
      → (left : V) × CalledOn (CallAtKey step) f pair.key pair.value r left next × (slot_table_set inside place (record here { value = after.now }) ≡ slot_table_set s place (record pair { value = left }))
  called_at_place step s inside place pair here f lent shown r after next same at found key value called =
      let both : Some pair ≡ Some here = sym at ∙ ap (λ (t : SlotTableState (Pair K V)). value_at t place) (sym same) ∙ found in
      let is : pair ≡ here = cc in (
        after.now,
        record {
          shown = shown;
          shows = value ∙ ap (λ (p : Pair K V). p.value) (sym is);
          after = after;
          called = (lent, key ∙ ap (λ (p : Pair K V). p.key) (sym is), called);
          leaves = refl;
        },
        ap (λ (t : SlotTableState (Pair K V)). slot_table_set t place (record here { value = after.now })) same
            ∙ ap (λ (p : Pair K V). slot_table_set s place (record p { value = after.now })) (sym is),
      )

  -- each key that is there was there
  abbrev pub KeysWere : SlotTableState (Pair K V) → SlotTableState (Pair K V) → Type 0
  KeysWere s new = (place : ℕ) (pair : Pair K V) → value_at new place ≡ Some pair → (was : Pair K V) × (value_at s place ≡ Some was) × (was.key ≡ pair.key)

  keys_from-same : (start : ℕ) (new old : List (Option (Pair K V))) → length new ≡ length old
      → ((i : ℕ) → option_map (λ (pair : Pair K V). pair.key) (place_at new i) ≡ option_map (λ (pair : Pair K V). pair.key) (place_at old i))
      → map (λ (entry : ℕ × Pair K V). entry.1.key) (entries_from start new) ≡ map (λ (entry : ℕ × Pair K V). entry.1.key) (entries_from start old)
  keys_from-same start [] [] len same = refl
  keys_from-same start [] (old ∷ olds) len same = absurd (omega arith)
  keys_from-same start (new ∷ news) [] len same = absurd (omega arith)
  keys_from-same start (None ∷ news) (None ∷ olds) len same = keys_from-same (start + 1) news olds (omega arith) (λ i. same (suc i))
  keys_from-same start (None ∷ news) (Some old ∷ olds) len same = absurd (let no : None ≡ Some old.key = same 0 in cc)
  keys_from-same start (Some new ∷ news) (None ∷ olds) len same = absurd (let no : Some new.key ≡ None = same 0 in cc)
  keys_from-same start (Some new ∷ news) (Some old ∷ olds) len same =
      let both : Some new.key ≡ Some old.key = same 0 in
      let is : new.key ≡ old.key = cc in
      ap₂ (λ key keys. key ∷ keys) is (keys_from-same (start + 1) news olds (omega arith) (λ i. same (suc i)))

  pub map_keys-same : (s new : SlotTableState (Pair K V)) → length new.values ≡ length s.values → SameKeys s new → map_keys new ≡ map_keys s
  map_keys-same s new len same = keys_from-same 0 new.values s.values len same

  -- another value at a place leaves each key where it was
  pub SameKeys-set : (s new : SlotTableState (Pair K V)) (place : ℕ) (pair : Pair K V) (left : V) → value_at s place ≡ Some pair → new ≡ slot_table_set s place (record pair { value = left }) → SameKeys s new
  SameKeys-set s new place pair left at is other =
      let key = option_map (λ (p : Pair K V). p.key) in
      let set = slot_table_set s place (record pair { value = left }) in
      ap (λ (t : SlotTableState (Pair K V)). key (value_at t other)) is
      ∙ elim (cases_eq other place) [
        | inl here ↦
            ap (λ i. key (value_at set i)) here
            ∙ ap key (get_or-set_same s.values place (Some (record pair { value = left })) None (place_at_within s.values place pair at))
            ∙ ap key (sym at)
            ∙ ap (λ i. key (value_at s i)) (sym here)
        | inr there ↦ ap key (get_or-set_other s.values place other (Some (record pair { value = left })) None there)
      ]

  pub SameKeys-both : (s now new : SlotTableState (Pair K V)) → SameKeys s now → SameKeys now new → SameKeys s new
  SameKeys-both s now new first second place = second place ∙ first place

  pub KeysWere-same : (s new : SlotTableState (Pair K V)) → SameKeys s new → KeysWere s new
  KeysWere-same s new same place pair at = go (value_at s place) refl (sym (ap (option_map (λ (p : Pair K V). p.key)) at) ∙ same place)
    where
      go : (was : Option (Pair K V)) → value_at s place ≡ was → Some pair.key ≡ option_map (λ (p : Pair K V). p.key) was → (was : Pair K V) × (value_at s place ≡ Some was) × (was.key ≡ pair.key)
      go None none is = absurd (cc)
      go (Some was) some is = let key : was.key ≡ pair.key = cc in (was, some, key)

  pub KeysWere-vacated : (s new : SlotTableState (Pair K V)) (place : ℕ) (pair : Pair K V) → SlotTableRemove s place new (Some pair) → KeysWere s new
  KeysWere-vacated s new place removed step other pair at = elim (cases_eq other place) [
    | inl here ↦ absurd (let none : Some pair ≡ None = sym at ∙ ap (value_at new) here ∙ step.gone in cc)
    | inr there ↦ (pair, sym (step.kept other there) ∙ at, refl)
  ]

  pub KeysWere-both : (s now new : SlotTableState (Pair K V)) → KeysWere s now → KeysWere now new → KeysWere s new
  KeysWere-both s now new first second place pair at =
      let was = second place pair at in
      let before = first place was.0 was.1 in
      (before.0, before.1, before.2 ∙ was.2)

  module _ (eq : K → K → Bool) (laws : IsEquivalence eq) where
    -- a key that has a value had one
    pub IsSome-map_value : (s new : SlotTableState (Pair K V)) → HasDistinctKeys eq s → KeysWere s new → (key : K) → IsSome (map_value eq new key) → IsSome (map_value eq s key)
    IsSome-map_value s new distinct were key has = go (map_entry eq new key) refl
      where
        go : (found : Option (ℕ × Pair K V)) → map_entry eq new key ≡ found → IsSome (map_value eq s key)
        go None none = absurd (let no = subst IsSome (ap (option_map (λ (e : ℕ × Pair K V). e.1.value)) none) has in cc)
        go (Some entry) some =
            let is = IsEntry-map_entry eq new key entry some in
            let was = were entry.0 entry.1 is.at in
            subst IsSome (sym (map_value-IsEntry eq laws s key entry.0 was.0 distinct was.1 (ap (λ k. eq k key) was.2 ∙ is.equal))) refl

    module _ (s : SlotTableState (Pair K V)) (distinct : HasDistinctKeys eq s) (place : ℕ) (pair : Pair K V) (at : value_at s place ≡ Some pair) where
      -- the key at a place is found there
      map_entry-at : map_entry eq s pair.key ≡ Some (place, pair)
      map_entry-at = map_entry-IsEntry eq laws s pair.key place pair distinct (record { at = at; equal = laws.refl pair.key })

      pub map_set-at : (left : V) → map_set eq s pair.key left ≡ slot_table_set s place (record pair { value = left })
      map_set-at left = map_set-found eq laws s pair.key left distinct (place, pair) map_entry-at

      map_remove-at : slot_table_remove s place ≡ map_remove eq s pair.key
      map_remove-at =
          ap (λ content. if is_some content then slot_table_vacate s place else s) at
          ∙ sym (ap (λ found. option_map_or (λ entry. slot_table_vacate s entry.0) found s) map_entry-at)

      pub map_retained : (left : V) (keep : Bool)
          → (if keep then slot_table_set s place (record pair { value = left }) else slot_table_remove s place) ≡ (if keep then map_set eq s pair.key left else map_remove eq s pair.key)
      map_retained left true = sym (map_set-at left)
      map_retained left false = map_remove-at

  -- a step at a place is one with its key and value
  abbrev pub AtPlace : {F : Type 0} → (F × SlotTableState (Pair K V) → K × V → F × SlotTableState (Pair K V) → Type 0) → F × SlotTableState (Pair K V) → ℕ × Pair K V → F × SlotTableState (Pair K V) → Type 0
  AtPlace R p entry q = R p (map_item entry) q

  module _ {F : Type 0} (R : F × SlotTableState (Pair K V) → K × V → F × SlotTableState (Pair K V) → Type 0) (f : F) (s : SlotTableState (Pair K V)) where
    -- the closure was called with all keys once no place is left that has one
    pub Visited-bounded : (bound : ℕ) (later : F) (now : SlotTableState (Pair K V)) → Visited (AtPlace R) f s bound later now → ((place : ℕ) → bound ≤ place → value_at s place ≡ None) → FoldsTo R (f, s) (map_items s) (later, now)
    Visited-bounded bound later now visited none =
        FoldsTo-map R map_item (entries s) (f, s) (later, now)
        (subst (λ items. FoldsTo (AtPlace R) (f, s) items (later, now)) (entries_from-bounded s bound none) visited.calls)

    pub Visited-takes : {A : Type 0} (step : F → K → MutBor V → A → MutBor V → F → Type 0) (pre : F → K → MutBor V → Type 0) (place : ℕ) (later : F) (now : SlotTableState (Pair K V)) (pair : Pair K V) (shown : MutBor V)
        → ((p q : F × SlotTableState (Pair K V)) (x : K × V) → R p x q → SomeCallOn step p.0 x q.0)
        → IsCallableOnEach step pre f (map_items s) → Visited (AtPlace R) f s place later now → value_at now place ≡ Some pair → shown.now ≡ pair.value → pre later pair.key shown
    Visited-takes step pre place later now pair shown each callable visited at is =
        let was : value_at s place ≡ Some pair = sym (visited.rest place (omega arith)) ∙ at in
        let front = entries_from 0 (take place s.values) in
        let back = entries_from (place + 1) (drop (place + 1) s.values) in
        let split = ap (map map_item) (entries_from-split s.values place pair was)
        ∙ map-append map_item front ((place, pair) ∷ back)
        ∙ ap (λ value. map map_item front ++ (pair.key, value) ∷ map map_item back) (sym is) in
        callable.at (map map_item front) (map map_item back) pair.key shown later split
        (FoldsTo-map (SomeCallOn step) map_item front f later
        (FoldsTo-first (AtPlace R) (λ p x q. SomeCallOn step p (map_item x) q) (λ p q x step. each p q (map_item x) step) front (f, s) (later, now) visited.calls))
