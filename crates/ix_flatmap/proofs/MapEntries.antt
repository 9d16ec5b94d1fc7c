-- The pair of a flat map whose key equals a given one.
use Rattle.std.proofs.Common.{◌≡◌, ◌<◌, ℕ, zero, suc, ◌+◌, ◌-◌, drop, ◌↔◌, List, [], ◌∷◌, Option, Some, None, IsSome, IsNone, Bool, true, false, cond, refl, sym, ap, ◌∙◌, subst, inl, inr, arith}
use Rattle.std.proofs.lemmas.Bool.{cases_Bool, cases_lt, both_ways}
use Rattle.std.specs.Cmp.{IsEquivalence}
use Rattle.std.specs.List.{find}
use Rattle.std.specs.Map.{keys_of, lookup}
use Rattle.std.specs.Prelude.{map, option_map, is_some, replicate}
use Rattle.std.proofs.lemmas.Simd.{map-map}
use Rattle.ix_tables.specs.Places.{place_at}
use Rattle.ix_slottable.specs.SlotTableState.{SlotTableState, value_at, entries, entries_from, slot_table_new}
use Rattle.ix_flatmap.specs.inner.FlatSearch.{is_key_at, HasNoKeyIn}
use Rattle.std.specs.Option.{option_map_or}
use Rattle.ix_tables.proofs.VacantTables.{place_at-replicate}
use Rattle.ix_flatmap.specs.MapState.{AreDistinctBy, HasDistinctKeys, map_entry, map_value, map_keys, map_item, map_items}
use Rattle.ix_flatmap.specs.declared.map.pair.Pair.{Pair}

find-equal : {X : Type 0} (test : X → Bool) (x : X) (xs : List X) → test x ≡ true → find test (x ∷ xs) ≡ Some x
find-equal test x xs equal = ap (λ b. cond b (Some x) (find test xs)) equal

find-differs : {X : Type 0} (test : X → Bool) (x : X) (xs : List X) → test x ≡ false → find test (x ∷ xs) ≡ find test xs
find-differs test x xs differs = ap (λ b. cond b (Some x) (find test xs)) differs

pub equal_keys : {K : Type 0} {eq : K → K → Bool} → IsEquivalence eq → (a b key : K) → eq a key ≡ true → eq b key ≡ true → eq a b ≡ true
equal_keys laws a b key first second = laws.congr a key b first ∙ (laws.symm key b ∙ second)

module _ {K Q V : Type 0} (eq : K → Q → Bool) where
  -- the pair at this place has a key that equals this one
  pub record IsEntry (s : SlotTableState (Pair K V)) (key : Q) (place : ℕ) (pair : Pair K V) : Type 0 where
    pub at : value_at s place ≡ Some pair
    pub equal : eq pair.key key ≡ true

  -- the same of places that come after `start` others
  record IsEntryFrom (start : ℕ) (places : List (Option (Pair K V))) (key : Q) (entry : ℕ × Pair K V) : Type 0 where
    pub i : ℕ
    pub is : entry.0 ≡ start + i
    pub at : place_at places i ≡ Some entry.1
    pub equal : eq entry.1.key key ≡ true

  after : (start : ℕ) (place : Option (Pair K V)) (places : List (Option (Pair K V))) (key : Q) (entry : ℕ × Pair K V) → IsEntryFrom (start + 1) places key entry → IsEntryFrom start (place ∷ places) key entry
  after start place places key entry later = let is = later.is in record { i = suc later.i; is = omega (arith, is); at = later.at; equal = later.equal }

  found_from : (start : ℕ) (places : List (Option (Pair K V))) (key : Q) (entry : ℕ × Pair K V) → find (λ e. eq e.1.key key) (entries_from start places) ≡ Some entry → IsEntryFrom start places key entry
  found_from start [] key entry found = absurd (cc)
  found_from start (None ∷ places) key entry found = after start None places key entry (found_from (start + 1) places key entry found)
  found_from start (Some pair ∷ places) key entry found = elim (cases_Bool (eq pair.key key)) [
    | inl equal ↦
        let here : Some (start, pair) ≡ Some entry = sym (find-equal (λ e. eq e.1.key key) (start, pair) (entries_from (start + 1) places) equal) ∙ found in
        let is : (start, pair) ≡ entry = cc in
        let first : entry.0 ≡ start = sym (ap (λ (e : ℕ × Pair K V). e.0) is) in
        record { i = 0; is = omega (arith, first); at = ap (λ (e : ℕ × Pair K V). Some e.1) is; equal = ap (λ (e : ℕ × Pair K V). eq e.1.key key) (sym is) ∙ equal }
    | inr differs ↦
        after start (Some pair) places key entry
        (found_from (start + 1) places key entry (sym (find-differs (λ e. eq e.1.key key) (start, pair) (entries_from (start + 1) places) differs) ∙ found))
  ]

  none_from : (start : ℕ) (places : List (Option (Pair K V))) (key : Q) → find (λ e. eq e.1.key key) (entries_from start places) ≡ None → (i : ℕ) (pair : Pair K V) → place_at places i ≡ Some pair → eq pair.key key ≡ false
  none_from start [] key none i pair at = absurd (cc)
  none_from start (None ∷ places) key none zero pair at = absurd (cc)
  none_from start (None ∷ places) key none (suc i) pair at = none_from (start + 1) places key none i pair at
  none_from start (Some first ∷ places) key none i pair at = elim (cases_Bool (eq first.key key)) [
    | inl equal ↦
        let here : Some (start, first) ≡ (let nothing : Option (ℕ × Pair K V) = None in nothing) = sym (find-equal (λ e. eq e.1.key key) (start, first) (entries_from (start + 1) places) equal) ∙ none in
        absurd (cc)
    | inr differs ↦
        first_or_later i at
        (none_from (start + 1) places key (sym (find-differs (λ e. eq e.1.key key) (start, first) (entries_from (start + 1) places) differs) ∙ none))
        differs
  ]
    where
      first_or_later : (i : ℕ) → place_at (Some first ∷ places) i ≡ Some pair → ((j : ℕ) (other : Pair K V) → place_at places j ≡ Some other → eq other.key key ≡ false) → eq first.key key ≡ false → eq pair.key key ≡ false
      first_or_later zero at later differs = let is : first ≡ pair = cc in ap (λ (p : Pair K V). eq p.key key) (sym is) ∙ differs
      first_or_later (suc i) at later differs = later i pair at

  -- no place among the first has the key
  abbrev NoneOfFirst : ℕ → List (Option (Pair K V)) → Q → Type 0
  NoneOfFirst n places key = (i : ℕ) → i < n → option_map_or (λ pair. eq pair.key key) (place_at places i) false ≡ false

  none-of-rest : (n : ℕ) (place : Option (Pair K V)) (places : List (Option (Pair K V))) (key : Q) → NoneOfFirst (suc n) (place ∷ places) key → NoneOfFirst n places key
  none-of-rest n place places key none i below = none (suc i) (omega (arith, below))

  find-skips : (n start : ℕ) (places : List (Option (Pair K V))) (key : Q) → NoneOfFirst n places key
      → find (λ e. eq e.1.key key) (entries_from (start + n) (drop n places)) ≡ find (λ e. eq e.1.key key) (entries_from start places)
  find-skips zero start places key none =
      let at : start + 0 ≡ start = omega arith in
      ap (λ first. find (λ e. eq e.1.key key) (entries_from first places)) at
  find-skips (suc n) start [] key none = refl
  find-skips (suc n) start (place ∷ places) key none =
      let at : start + suc n ≡ (start + 1) + n = omega arith in
      ap (λ first. find (λ e. eq e.1.key key) (entries_from first (drop n places))) at
      ∙ (find-skips n (start + 1) places key (none-of-rest n place places key none) ∙ skips-one place (none 0 (omega arith)))
    where
      skips-one : (place : Option (Pair K V)) → option_map_or (λ pair. eq pair.key key) place false ≡ false
          → find (λ e. eq e.1.key key) (entries_from (start + 1) places) ≡ find (λ e. eq e.1.key key) (entries_from start (place ∷ places))
      skips-one None none = refl
      skips-one (Some pair) differs = sym (find-differs (λ e. eq e.1.key key) (start, pair) (entries_from (start + 1) places) differs)

  -- what is found from a place on is what is found in all, if no place before it has the key
  pub map_entry_from : (s : SlotTableState (Pair K V)) (key : Q) (start : ℕ) → HasNoKeyIn eq s key 0 start → find (λ e. eq e.1.key key) (entries_from start (drop start s.values)) ≡ map_entry eq s key
  map_entry_from s key start none =
      let at : start ≡ 0 + start = omega arith in
      ap (λ first. find (λ e. eq e.1.key key) (entries_from first (drop start s.values))) at ∙ find-skips start 0 s.values key (λ i below. let at : i ≡ 0 + i = omega arith in ap (is_key_at eq s key) at ∙ none i below)

  -- none of so many, and none of so many more
  pub HasNoKeyIn-both : (s : SlotTableState (Pair K V)) (key : Q) (start n more : ℕ) → HasNoKeyIn eq s key start n → HasNoKeyIn eq s key (start + n) more → HasNoKeyIn eq s key start (n + more)
  HasNoKeyIn-both s key start n more first second i below = elim (cases_lt i n) [
    | inl before ↦ first i before
    | inr later ↦
        let at : start + i ≡ (start + n) + (i - n) = omega (arith, later) in
        ap (is_key_at eq s key) at ∙ second (i - n) (omega (arith, later, below))
  ]

  -- none of the first, and none of so many more
  pub HasNoKeyIn-more : (s : SlotTableState (Pair K V)) (key : Q) (start n : ℕ) → HasNoKeyIn eq s key 0 start → HasNoKeyIn eq s key start n → HasNoKeyIn eq s key 0 (start + n)
  HasNoKeyIn-more s key start n first more = HasNoKeyIn-both s key 0 start n first (λ i below. let at : (0 + start) + i ≡ start + i = omega arith in ap (is_key_at eq s key) at ∙ more i below)

  -- what is found is an entry
  pub IsEntry-map_entry : (s : SlotTableState (Pair K V)) (key : Q) (entry : ℕ × Pair K V) → map_entry eq s key ≡ Some entry → IsEntry s key entry.0 entry.1
  IsEntry-map_entry s key entry found =
      let here = found_from 0 s.values key entry found in
      let is : here.i ≡ entry.0 = let first = here.is in omega arith in
      record { at = subst (λ place. value_at s place ≡ Some entry.1) is here.at; equal = here.equal }

  pub map_entry_none : (s : SlotTableState (Pair K V)) (key : Q) → map_entry eq s key ≡ None → (place : ℕ) (pair : Pair K V) → value_at s place ≡ Some pair → eq pair.key key ≡ false
  map_entry_none s key none place pair at = none_from 0 s.values key none place pair at

  -- the pair at the place of a key
  pub map_entry-place : (s : SlotTableState (Pair K V)) (key : Q) (place : ℕ) → Some place ≡ option_map (λ e. e.0) (map_entry eq s key) → (pair : Pair K V) × (map_entry eq s key ≡ Some (place, pair)) × IsEntry s key place pair
  map_entry-place s key place is = go (map_entry eq s key) refl is
    where
      go : (found : Option (ℕ × Pair K V)) → map_entry eq s key ≡ found → Some place ≡ option_map (λ e. e.0) found → (pair : Pair K V) × (map_entry eq s key ≡ Some (place, pair)) × IsEntry s key place pair
      go None none is = absurd (cc)
      go (Some entry) some is =
          let same : place ≡ entry.0 = cc in
          let found = some ∙ ap (λ (p : ℕ). Some (p, entry.1)) (sym same) in
          (entry.1, found, IsEntry-map_entry s key (place, entry.1) found)

  -- a key without a place has no value
  pub map_value-none : (s : SlotTableState (Pair K V)) (key : Q) → None ≡ option_map (λ e. e.0) (map_entry eq s key) → None ≡ map_value eq s key
  map_value-none s key is = go (map_entry eq s key) is
    where
      go : (found : Option (ℕ × Pair K V)) → None ≡ option_map (λ e. e.0) found → None ≡ option_map (λ (e : ℕ × Pair K V). e.1.value) found
      go None is = refl
      go (Some entry) is = absurd (cc)

  -- a key without a place has no entry
  pub map_entry-unplaced : (s : SlotTableState (Pair K V)) (key : Q) (found : Option ℕ) → found ≡ option_map (λ e. e.0) (map_entry eq s key) → is_some found ≡ false → map_entry eq s key ≡ None
  map_entry-unplaced s key found is none = go (map_entry eq s key) (ap is_some (sym is) ∙ none)
    where
      go : (entry : Option (ℕ × Pair K V)) → is_some (option_map (λ e. e.0) entry) ≡ false → entry ≡ None
      go None none = refl
      go (Some entry) none = absurd (cc)

  pub map_entry-without_place : (s : SlotTableState (Pair K V)) (key : Q) → None ≡ option_map (λ e. e.0) (map_entry eq s key) → map_entry eq s key ≡ None
  map_entry-without_place s key is = map_entry-unplaced s key None is refl

  -- a key without a value has no entry
  pub map_entry-absent : (s : SlotTableState (Pair K V)) (key : Q) → (IsSome (map_value eq s key) → ⊥) → map_entry eq s key ≡ None
  map_entry-absent s key absent = go (map_entry eq s key) absent
    where
      go : (found : Option (ℕ × Pair K V)) → (IsSome (option_map (λ (e : ℕ × Pair K V). e.1.value) found) → ⊥) → found ≡ None
      go None absent = refl
      go (Some entry) absent = absurd (absent refl)

  -- what is found is nothing exactly if no pair has an equal key
  pub IsNone-map_value : (s : SlotTableState (Pair K V)) (key : Q) (value : Option V) → value ≡ map_value eq s key → IsNone value ↔ ((place : ℕ) (pair : Pair K V) → value_at s place ≡ Some pair → eq pair.key key ≡ false)
  IsNone-map_value s key value is = subst (λ v. IsNone v ↔ ((place : ℕ) (pair : Pair K V) → value_at s place ≡ Some pair → eq pair.key key ≡ false)) (sym is) (go (map_entry eq s key) refl)
    where
      go : (found : Option (ℕ × Pair K V)) → map_entry eq s key ≡ found → IsNone (map_value eq s key) ↔ ((place : ℕ) (pair : Pair K V) → value_at s place ≡ Some pair → eq pair.key key ≡ false)
      go None none = (λ _. map_entry_none s key none, λ _. subst IsNone (sym (ap (option_map (λ (e : ℕ × Pair K V). e.1.value)) none)) refl)
      go (Some entry) some =
          let is = IsEntry-map_entry s key entry some in (
            λ none. absurd (let no = subst IsNone (ap (option_map (λ (e : ℕ × Pair K V). e.1.value)) some) none in cc),
            λ differs. absurd (both_ways _ (differs entry.0 entry.1 is.at) is.equal),
          )

module _ {K V : Type 0} (eq : K → K → Bool) (laws : IsEquivalence eq) where
  -- where keys are distinct, an entry is what is found
  pub map_entry-IsEntry : (s : SlotTableState (Pair K V)) (key : K) (place : ℕ) (pair : Pair K V) → HasDistinctKeys eq s → IsEntry eq s key place pair → map_entry eq s key ≡ Some (place, pair)
  map_entry-IsEntry s key place pair distinct is = go (map_entry eq s key) refl
    where
      go : (found : Option (ℕ × Pair K V)) → map_entry eq s key ≡ found → found ≡ Some (place, pair)
      go None none = absurd (both_ways _ (map_entry_none eq s key none place pair is.at) is.equal)
      go (Some entry) some =
          let other = IsEntry-map_entry eq s key entry some in
          let place_is : entry.0 ≡ place = distinct entry.0 place entry.1 pair other.at is.at (equal_keys laws entry.1.key pair.key key other.equal is.equal) in
          let both : Some entry.1 ≡ Some pair = sym other.at ∙ (ap (value_at s) place_is ∙ is.at) in
          let pair_is : entry.1 ≡ pair = cc in
          ap (λ (p : ℕ). Some (p, entry.1)) place_is ∙ ap (λ (p : Pair K V). Some (place, p)) pair_is

  -- where keys are distinct, the pair at a place that has the key is what is found
  pub map_entry-is_key_at : (s : SlotTableState (Pair K V)) (key : K) (place : ℕ) (pair : Pair K V) → HasDistinctKeys eq s → value_at s place ≡ Some pair → is_key_at eq s key place ≡ true → map_entry eq s key ≡ Some (place, pair)
  map_entry-is_key_at s key place pair distinct at found =
      map_entry-IsEntry s key place pair distinct (record { at = at; equal = sym (ap (λ p. option_map_or (λ pair. eq pair.key key) p false) at) ∙ found })

  pub map_value-IsEntry : (s : SlotTableState (Pair K V)) (key : K) (place : ℕ) (pair : Pair K V) → HasDistinctKeys eq s → value_at s place ≡ Some pair → eq pair.key key ≡ true → map_value eq s key ≡ Some pair.value
  map_value-IsEntry s key place pair distinct at equal =
      ap (option_map (λ (e : ℕ × Pair K V). e.1.value)) (map_entry-IsEntry s key place pair distinct (record { at = at; equal = equal }))

  -- two maps with the same entries of a key find the same
  pub map_entry_same : (s t : SlotTableState (Pair K V)) (key : K) → HasDistinctKeys eq t → ((place : ℕ) (pair : Pair K V) → IsEntry eq s key place pair → IsEntry eq t key place pair) → ((place : ℕ) (pair : Pair K V) → IsEntry eq t key place pair → IsEntry eq s key place pair) → map_entry eq t key ≡ map_entry eq s key
  map_entry_same s t key distinct to from = go (map_entry eq s key) refl
    where
      there : (found : Option (ℕ × Pair K V)) → map_entry eq t key ≡ found → map_entry eq s key ≡ None → found ≡ None
      there None found none = refl
      there (Some entry) found none =
          let is = from entry.0 entry.1 (IsEntry-map_entry eq t key entry found) in
          absurd (both_ways _ (map_entry_none eq s key none entry.0 entry.1 is.at) is.equal)

      go : (found : Option (ℕ × Pair K V)) → map_entry eq s key ≡ found → map_entry eq t key ≡ found
      go None none = there (map_entry eq t key) refl none
      go (Some entry) some = map_entry-IsEntry t key entry.0 entry.1 distinct (to entry.0 entry.1 (IsEntry-map_entry eq s key entry some))

-- no key is found where no place has a pair
entries_from-replicate : {T : Type 0} (start n : ℕ) → entries_from {T = T} start (replicate n None) ≡ []
entries_from-replicate start zero = refl
entries_from-replicate start (suc n) = entries_from-replicate (start + 1) n

pub map_value-vacant : {K Q V : Type 0} (eq : K → Q → Bool) (s : SlotTableState (Pair K V)) (n : ℕ) → s.values ≡ replicate n None → (key : Q) → map_value eq s key ≡ None
map_value-vacant {K} {Q} {V} eq s n none key =
    ap (λ items. option_map (λ (e : ℕ × Pair K V). e.1.value) (find (λ (e : ℕ × Pair K V). eq e.1.key key) items)) (ap (entries_from 0) none ∙ entries_from-replicate 0 n)

-- an empty map has no two values
pub AreDistinctBy-slot_table_new : {T : Type 0} (same : T → T → Bool) (capacity : ℕ) (s : SlotTableState T) → s ≡ slot_table_new capacity → AreDistinctBy same s
AreDistinctBy-slot_table_new {T} same capacity s is i j a b at_i at_j equal =
    let some : value_at (slot_table_new capacity) i ≡ Some a = subst (λ (t : SlotTableState T). value_at t i ≡ Some a) is at_i in
    let clash : Some a ≡ None = sym some ∙ place_at-replicate capacity i in
    absurd (cc)

module _ {K V : Type 0} where
  -- and so no two keys
  pub HasDistinctKeys-slot_table_new : (eq : K → K → Bool) (capacity : ℕ) (s : SlotTableState (Pair K V)) → s ≡ slot_table_new capacity → HasDistinctKeys eq s
  HasDistinctKeys-slot_table_new eq capacity s is = AreDistinctBy-slot_table_new (λ (a b : Pair K V). eq a.key b.key) capacity s is

module _ {K V : Type 0} where
  pub keys_of-map_items : (s : SlotTableState (Pair K V)) → keys_of (map_items s) ≡ map_keys s
  keys_of-map_items s = map-map (λ (item : K × V). item.0) map_item (entries s)

  lookup-items : (eq : K → K → Bool) (key : K) (items : List (ℕ × Pair K V)) → lookup (λ other. eq other key) (map map_item items) ≡ option_map (λ (entry : ℕ × Pair K V). entry.1.value) (find (λ entry. eq entry.1.key key) items)
  lookup-items eq key [] = refl
  lookup-items eq key (entry ∷ items) = either (eq entry.1.key key) (lookup-items eq key items)
    where
      either : (b : Bool) → lookup (λ other. eq other key) (map map_item items) ≡ option_map (λ (found : ℕ × Pair K V). found.1.value) (find (λ other. eq other.1.key key) items) → cond b (Some entry.1.value) (lookup (λ other. eq other key) (map map_item items)) ≡ option_map (λ (found : ℕ × Pair K V). found.1.value) (cond b (Some entry) (find (λ other. eq other.1.key key) items))
      either true later = refl
      either false later = later

  pub lookup-map_items : (eq : K → K → Bool) (s : SlotTableState (Pair K V)) (key : K) → lookup (λ other. eq other key) (map_items s) ≡ map_value eq s key
  lookup-map_items eq s key = lookup-items eq key (entries s)
