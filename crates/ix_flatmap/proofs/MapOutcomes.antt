-- What the calls of a closure leave of each pair of a flat map, if the closure stays as it was.
use Rattle.std.proofs.Common.{◌≡◌, ℕ, zero, suc, ◌+◌, List, [], ◌∷◌, length, map, Bool, true, false, Option, Some, None, refl, sym, ap, ap₂, ◌∙◌, subst, inl, inr, arith}
use Rattle.std.specs.Prelude.{if◌then◌else◌, cond, option_map, filter}
use Rattle.std.specs.Cmp.{IsEquivalence}
use Rattle.std.specs.Borrow.{Bor, MutBor}
use Rattle.std.specs.List.{FoldsTo}
use Rattle.std.proofs.lemmas.Bool.{cases_eq}
use Rattle.ix_tables.specs.Places.{place_at}
use Rattle.ix_slottable.specs.SlotTableState.{SlotTableState, value_at, entries_from}
use Rattle.ix_slottable.specs.SlotTableSteps.{slot_table_set, slot_table_remove}
use Rattle.ix_slottable.specs.SlotTableCalls.{CalledOn, ComputesTest, ComputesValue, ChangesItem, RetainsItem, option_filter}
use Rattle.ix_slottable.proofs.SlotTableCalls.{Settles-slot_table_set, Settles-retained}
use Rattle.ix_slottable.proofs.Outcomes.{becomes_at_each, value_at-retained}
use Rattle.ix_flatmap.specs.MapState.{HasDistinctKeys, map_entry, map_value, map_item, map_items}
use Rattle.ix_flatmap.specs.MapSteps.{map_set, map_remove}
use Rattle.ix_flatmap.specs.MapCalls.{CallAtKey}
use Rattle.ix_flatmap.specs.declared.map.pair.Pair.{Pair}
use Rattle.ix_flatmap.proofs.MapCalls.{map_set-at, map_retained}
use Rattle.ix_flatmap.proofs.MapEntries.{IsEntry, IsEntry-map_entry, map_entry-IsEntry, map_entry_none, map_value-IsEntry}
use Rattle.ix_flatmap.proofs.MapSteps.{HasDistinctKeys-set}

module _ {T : Type 0} where
  option_filter-some : (test : T → Bool) (content : Option T) (value : T) → option_filter test content ≡ Some value → content ≡ Some value
  option_filter-some test None value is = absurd (cc)
  option_filter-some test (Some held) value is = go (test held) is
    where
      go : (b : Bool) → (if b then Some held else None) ≡ Some value → Some held ≡ Some value
      go true is = is
      go false is = absurd (cc)

  -- places that hold the same are the same
  places_same : (xs ys : List (Option T)) → length xs ≡ length ys → ((i : ℕ) → place_at xs i ≡ place_at ys i) → xs ≡ ys
  places_same [] [] len same = refl
  places_same [] (y ∷ ys) len same = absurd (omega arith)
  places_same (x ∷ xs) [] len same = absurd (omega arith)
  places_same (x ∷ xs) (y ∷ ys) len same = ap₂ (λ z zs. z ∷ zs) (same 0) (places_same xs ys (omega arith) (λ i. same (suc i)))

  place_at-map : (become : Option T → Option T) → become None ≡ None → (places : List (Option T)) (i : ℕ) → become (place_at places i) ≡ place_at (map become places) i
  place_at-map become none [] i = none
  place_at-map become none (place ∷ places) zero = refl
  place_at-map become none (place ∷ places) (suc i) = place_at-map become none places i

  length-map_places : (become : Option T → Option T) (places : List (Option T)) → length (map become places) ≡ length places
  length-map_places become [] = refl
  length-map_places become (place ∷ places) = ap (λ n. suc n) (length-map_places become places)

  module _ {I : Type 0} (item : ℕ × T → I) where
    first : (test passes : Bool) (start : ℕ) (value : T) (places : List (Option T)) (rest : List I) → test ≡ passes → map item (entries_from (start + 1) places) ≡ rest
        → map item (entries_from start ((if test then Some value else None) ∷ places)) ≡ cond passes (item (start, value) ∷ rest) rest
    first true passes start value places rest same others = ap (λ items. item (start, value) ∷ items) others ∙ ap (λ b. cond b (item (start, value) ∷ rest) rest) same
    first false passes start value places rest same others = others ∙ ap (λ b. cond b (item (start, value) ∷ rest) rest) same

    -- the entries whose items pass
    entries_from-filter : (test : T → Bool) (passes : I → Bool) → ((entry : ℕ × T) → passes (item entry) ≡ test entry.1) → (start : ℕ) (places : List (Option T))
        → map item (entries_from start (map (option_filter test) places)) ≡ filter passes (map item (entries_from start places))
    entries_from-filter test passes same start [] = refl
    entries_from-filter test passes same start (None ∷ places) = entries_from-filter test passes same (start + 1) places
    entries_from-filter test passes same start (Some value ∷ places) =
        first (test value) (passes (item (start, value))) start value (map (option_filter test) places) _ (sym (same (start, value))) (entries_from-filter test passes same (start + 1) places)

    entries_from-map : (change : T → T) (changed : I → I) → ((key : ℕ) (value : T) → item (key, change value) ≡ changed (item (key, value))) → (start : ℕ) (places : List (Option T))
        → map item (entries_from start (map (option_map change) places)) ≡ map changed (map item (entries_from start places))
    entries_from-map change changed same start [] = refl
    entries_from-map change changed same start (None ∷ places) = entries_from-map change changed same (start + 1) places
    entries_from-map change changed same start (Some value ∷ places) =
        ap₂ (λ x xs. x ∷ xs) (same start value) (entries_from-map change changed same (start + 1) places)

module _ {K V : Type 0} (eq : K → K → Bool) (laws : IsEquivalence eq) where
  -- the pair that a key with another value makes
  abbrev revalued : (K × V → K × V) → Pair K V → Pair K V
  revalued change pair =
      let changed = change (pair.key, pair.value) in record { key = changed.0; value = changed.1 }

  HasDistinctKeys-retained : (s : SlotTableState (Pair K V)) (place : ℕ) (pair : Pair K V) (left : V) (keep : Bool) (new : SlotTableState (Pair K V)) → HasDistinctKeys eq s → value_at s place ≡ Some pair
      → new ≡ (if keep then slot_table_set s place (record pair { value = left }) else slot_table_remove s place) → HasDistinctKeys eq new
  HasDistinctKeys-retained s place pair left true new distinct at is =
      subst (HasDistinctKeys eq) (sym is) (HasDistinctKeys-set eq laws s pair.key left distinct place pair (record { at = at; equal = laws.refl pair.key }))
  HasDistinctKeys-retained s place pair left false new distinct at is = λ i j a b at_i at_j equal. distinct i j a b (was i a at_i) (was j b at_j) equal
    where
      was : (i : ℕ) (a : Pair K V) → value_at new i ≡ Some a → value_at s i ≡ Some a
      was i a at_i = elim (cases_eq i place) [
        | inl here ↦ absurd (let none : Some a ≡ None = sym at_i ∙ ap (value_at new) here ∙ value_at-retained s place pair (record pair { value = left }) false new at is in cc)
        | inr there ↦ sym ((Settles-retained s place (record pair { value = left }) false new is).kept i there) ∙ at_i
      ]

  module _ {F : Type 0} (f : F) (s : SlotTableState (Pair K V)) (distinct : HasDistinctKeys eq s) (last : F) (new : SlotTableState (Pair K V)) where
    module _ (step : F → Bor K → MutBor V → Bool → MutBor V → F → Type 0) (test : K → V → Bool) (tests : ComputesTest (CallAtKey step) f test)
        (folds : FoldsTo (RetainsItem (map_set eq) (map_remove eq) (CallAtKey step)) (f, s) (map_items s) (last, new)) where
      abbrev passes : Pair K V → Bool
      passes pair = test pair.key pair.value

      places_retained : (place : ℕ) → value_at new place ≡ option_filter passes (value_at s place)
      places_retained =
          becomes_at_each value_at (λ v. v) (λ place pair. (pair.key, pair.value)) (RetainsItem (map_set eq) (map_remove eq) (CallAtKey step)) f
          (λ start t. HasDistinctKeys eq t) (λ place old now. now ≡ option_filter passes old)
          (λ place t good. good) (λ place seen none. none ∙ sym (ap (option_filter passes) none))
          (λ t place pair q good at called.
          let says = tests pair.key pair.value called.0 called.1 q.0 called.2 in
          let is : q.1 ≡ (if called.0 then slot_table_set t place (record pair { value = called.1 }) else slot_table_remove t place) = called.3 ∙ sym (map_retained eq laws t good place pair at called.1 called.0) in
          record {
            same = says.2;
            good = HasDistinctKeys-retained t place pair called.1 called.0 q.1 good at is;
            kept = (Settles-retained t place (record pair { value = called.1 }) called.0 q.1 is).kept;
            becomes = value_at-retained t place pair (record pair { value = called.1 }) called.0 q.1 at is
                ∙ ap₂ (λ (keep : Bool) (left : V). if keep then Some (record pair { value = left }) else None) says.0 says.1 ∙ sym (ap (option_filter passes) at);
          })
          s.values s last new distinct (λ place. refl) folds

      pub map_items-filter : length new.values ≡ length s.values → map_items new ≡ filter (λ item. test item.0 item.1) (map_items s)
      map_items-filter len =
          ap (λ places. map map_item (entries_from 0 places)) (places_same new.values (map (option_filter passes) s.values) (len ∙ sym (length-map_places (option_filter passes) s.values))
          (λ i. places_retained i ∙ place_at-map (option_filter passes) refl s.values i))
          ∙ entries_from-filter map_item passes (λ item. test item.0 item.1) (λ entry. refl) 0 s.values

    module _ (step : F → Bor K → MutBor V → Unit {0} → MutBor V → F → Type 0) (change : K × V → K × V)
        (changes : (key : K) (value left : V) (next : F) → CalledOn (CallAtKey step) f key value tt left next → ((key, left) ≡ change (key, value)) × (next ≡ f))
        (folds : FoldsTo (ChangesItem (map_set eq) (CallAtKey step)) (f, s) (map_items s) (last, new)) where
      places_changed : (place : ℕ) → value_at new place ≡ option_map (revalued change) (value_at s place)
      places_changed =
          becomes_at_each value_at (λ v. v) (λ place pair. (pair.key, pair.value)) (ChangesItem (map_set eq) (CallAtKey step)) f
          (λ start t. HasDistinctKeys eq t) (λ place old now. now ≡ option_map (revalued change) old)
          (λ place t good. good) (λ place seen none. none ∙ sym (ap (option_map (revalued change)) none))
          (λ t place pair q good at called.
          let says = changes pair.key pair.value called.0 q.0 called.1 in
          let is : q.1 ≡ slot_table_set t place (record pair { value = called.0 }) = called.2 ∙ map_set-at eq laws t good place pair at called.0 in
          record {
            same = says.1;
            good = HasDistinctKeys-retained t place pair called.0 true q.1 good at is;
            kept = (Settles-slot_table_set t place (record pair { value = called.0 }) q.1 is).kept;
            becomes = value_at-retained t place pair (record pair { value = called.0 }) true q.1 at is
                ∙ ap (λ (item : K × V). let p : Pair K V = record { key = item.0; value = item.1 } in Some p) says.0 ∙ sym (ap (option_map (revalued change)) at);
          })
          s.values s last new distinct (λ place. refl) folds

      pub map_items-map : length new.values ≡ length s.values → map_items new ≡ map change (map_items s)
      map_items-map len =
          ap (λ places. map map_item (entries_from 0 places)) (places_same new.values (map (option_map (revalued change)) s.values) (len ∙ sym (length-map_places (option_map (revalued change)) s.values))
          (λ i. places_changed i ∙ place_at-map (option_map (revalued change)) refl s.values i))
          ∙ entries_from-map map_item (revalued change) change (λ key pair. refl) 0 s.values

    module _ (held : HasDistinctKeys eq new) where
      -- a key has its value where that passes
      module _ (step : F → Bor K → MutBor V → Bool → MutBor V → F → Type 0) (test : V → Bool) (tests : ComputesTest (CallAtKey step) f (λ key. test))
          (folds : FoldsTo (RetainsItem (map_set eq) (map_remove eq) (CallAtKey step)) (f, s) (map_items s) (last, new)) where
        value_kept : (place : ℕ) → value_at new place ≡ option_filter (λ pair. test pair.value) (value_at s place)
        value_kept = places_retained step (λ key. test) tests folds

        pub map_value-filter : (key : K) → map_value eq new key ≡ option_filter test (map_value eq s key)
        map_value-filter key = go (map_entry eq s key) refl
          where
            -- an entry that is left was there
            was : (entry : ℕ × Pair K V) → map_entry eq new key ≡ Some entry → value_at s entry.0 ≡ Some entry.1
            was entry some = option_filter-some (λ pair. test pair.value) (value_at s entry.0) entry.1 (sym (value_kept entry.0) ∙ (IsEntry-map_entry eq new key entry some).at)

            none_left : ((entry : ℕ × Pair K V) → map_entry eq new key ≡ Some entry → ⊥) → map_value eq new key ≡ None
            none_left never = either (map_entry eq new key) refl
              where
                either : (left : Option (ℕ × Pair K V)) → map_entry eq new key ≡ left → map_value eq new key ≡ None
                either None none = ap (option_map (λ (e : ℕ × Pair K V). e.1.value)) none
                either (Some entry) some = absurd (never entry some)

            go : (found : Option (ℕ × Pair K V)) → map_entry eq s key ≡ found → map_value eq new key ≡ option_filter test (map_value eq s key)
            go None none =
                none_left (λ entry some.
                let left = IsEntry-map_entry eq new key entry some in
                let differs = map_entry_none eq s key none entry.0 entry.1 (was entry some) in
                let no : true ≡ false = sym left.equal ∙ differs in absurd (cc))
                ∙ sym (ap (λ (e : Option (ℕ × Pair K V)). option_filter test (option_map (λ (e : ℕ × Pair K V). e.1.value) e)) none)
            go (Some entry) some =
                let is = IsEntry-map_entry eq s key entry some in
                let now : value_at new entry.0 ≡ (if test entry.1.value then Some entry.1 else None) = value_kept entry.0 ∙ ap (option_filter (λ (pair : Pair K V). test pair.value)) is.at in
                passing (test entry.1.value) now ∙ sym (ap (λ (e : Option (ℕ × Pair K V)). option_filter test (option_map (λ (e : ℕ × Pair K V). e.1.value) e)) some)
              where
                is_here : IsEntry eq s key entry.0 entry.1
                is_here = IsEntry-map_entry eq s key entry some

                passing : (b : Bool) → value_at new entry.0 ≡ (if b then Some entry.1 else None) → map_value eq new key ≡ (if b then Some entry.1.value else None)
                passing true now = map_value-IsEntry eq laws new key entry.0 entry.1 held now is_here.equal
                passing false now = none_left (λ other other_some.
                    let there = map_entry-IsEntry eq laws s key other.0 other.1 distinct (record { at = was other other_some; equal = (IsEntry-map_entry eq new key other other_some).equal }) in
                    let both : Some entry ≡ Some other = sym some ∙ there in
                    let same : entry ≡ other = cc in
                    let no : Some other.1 ≡ None = sym (IsEntry-map_entry eq new key other other_some).at ∙ ap (λ (e : ℕ × Pair K V). value_at new e.0) (sym same) ∙ now in
                    absurd (cc))

      module _ (step : F → Bor K → MutBor V → Unit {0} → MutBor V → F → Type 0) (change : V → V) (changes : ComputesValue (CallAtKey step) f (λ key. change))
          (folds : FoldsTo (ChangesItem (map_set eq) (CallAtKey step)) (f, s) (map_items s) (last, new)) where
        value_changed : (place : ℕ) → value_at new place ≡ option_map (revalued (λ item. (item.0, change item.1))) (value_at s place)
        value_changed =
            places_changed step (λ item. (item.0, change item.1)) (λ key value left next called. let says = changes key value left next called in (ap (λ v. (key, v)) says.0, says.1)) folds

        pub map_value-map : (key : K) → map_value eq new key ≡ option_map change (map_value eq s key)
        map_value-map key = go (map_entry eq s key) refl
          where
            changed_from : (content : Option (Pair K V)) (pair : Pair K V) → option_map (revalued (λ item. (item.0, change item.1))) content ≡ Some pair → (was : Pair K V) × (content ≡ Some was) × (was.key ≡ pair.key)
            changed_from None pair is = absurd (cc)
            changed_from (Some was) pair is =
                let same : revalued (λ item. (item.0, change item.1)) was ≡ pair = cc in
                (was, refl, ap (λ (p : Pair K V). p.key) same)

            go : (found : Option (ℕ × Pair K V)) → map_entry eq s key ≡ found → map_value eq new key ≡ option_map change (map_value eq s key)
            go None none = either (map_entry eq new key) refl ∙ sym (ap (λ (e : Option (ℕ × Pair K V)). option_map change (option_map (λ (e : ℕ × Pair K V). e.1.value) e)) none)
              where
                either : (left : Option (ℕ × Pair K V)) → map_entry eq new key ≡ left → map_value eq new key ≡ None
                either None left = ap (option_map (λ (e : ℕ × Pair K V). e.1.value)) left
                either (Some entry) left =
                    let is = IsEntry-map_entry eq new key entry left in
                    let was = changed_from (value_at s entry.0) entry.1 (sym (value_changed entry.0) ∙ is.at) in
                    let differs = map_entry_none eq s key none entry.0 was.0 was.1 in
                    let no : true ≡ false = sym is.equal ∙ ap (λ k. eq k key) (sym was.2) ∙ differs in absurd (cc)
            go (Some entry) some =
                let is = IsEntry-map_entry eq s key entry some in
                map_value-IsEntry eq laws new key entry.0 (revalued (λ item. (item.0, change item.1)) entry.1) held (value_changed entry.0 ∙ ap (option_map (revalued (λ item. (item.0, change item.1)))) is.at) is.equal
                ∙ sym (ap (λ (e : Option (ℕ × Pair K V)). option_map change (option_map (λ (e : ℕ × Pair K V). e.1.value) e)) some)
