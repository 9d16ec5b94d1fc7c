-- How many keys are held and how many places are free, after each step of a slot map; and what clearing it leaves.
use Rattle.std.proofs.Common.{◌≡◌, ◌≢◌, ℕ, zero, suc, ◌+◌, ◌<◌, ◌≤◌, inl, inr, List, [], ◌∷◌, length, set, Bool, true, false, Option, Some, None, IsSome, refl, sym, ap, ap₂, ◌∙◌, subst, arith}
use Rattle.std.specs.Prelude.{if◌then◌else◌, is_some, count_by, nat_eq}
use Rattle.std.specs.List.{fold, range_with_len}
use Rattle.std.specs.Option.{option_flatten}
use Rattle.std.proofs.lemmas.Bool.{cases_eq, cases_lt, cases_Bool, eqb-true, lt-ltb}
use Rattle.std.proofs.lemmas.Bool.Decides.{nat_tests}
use Rattle.std.proofs.lemmas.List.{get_or-set_same, length-set}
use Rattle.std.proofs.lemmas.List.Sums.{sum_by-cons, sum_by-set}
use Rattle.ix_tables.specs.Places.{place_at}
use Rattle.ix_tables.proofs.Places.{place_at_within, held_item}
use Rattle.ix_slottable.proofs.SlotTables.{place_at_past}
use Rattle.ix_slottable.proofs.SlotTableCalls.{fold-range_with_len}
use Rattle.ix_slottable.specs.SlotTableState.{value_at, IsFree}
use Rattle.ix_slotmap.specs.Generations.{SlotKey, SlotMapState, greatest_generation, generation_at, key_at, place_value, slot_map_value, slot_map_len, IsDead}
use Rattle.ix_slotmap.specs.SlotMapSteps.{is_raisable, slot_map_set_at, slot_map_fill, slot_map_replace, slot_map_vacate, slot_map_retire, slot_map_remove_at, slot_map_clear, SlotMapRemove}
use Rattle.ix_slotmap.proofs.Generations.{one_if_held, if_none}
use Rattle.ix_slotmap.proofs.SlotMapCalls.{keys_same, content_of, slot_map_value-key_at, held_key, SettlesPlace, SettlesPlace-slot_map_remove_at}

module _ {T : Type 0} where
  -- another content of a place
  count_held-set : (values : List (Option (Option T))) (place : ℕ) (old content : Option (Option T)) → place < length values → place_at values place ≡ old
      → count_by (λ c. is_some (option_flatten c)) (set values place content) + one_if_held old ≡ count_by (λ c. is_some (option_flatten c)) values + one_if_held content
  count_held-set values place old content below at =
      let all = sum_by-set one_if_held values place content None below in
      let was : one_if_held (place_at values place) ≡ one_if_held old = ap one_if_held at in omega arith

  pub slot_map_len-slot_map_fill : (s : SlotMapState T) (place : ℕ) (value : T) → IsFree s.slots place → slot_map_len (slot_map_fill s place value) ≡ slot_map_len s + 1
  slot_map_len-slot_map_fill s place value free =
      let all = count_held-set s.slots.values place None (Some (Some value)) free.0 free.1 in omega (arith, all)

  module _ (s : SlotMapState T) (place : ℕ) (held : IsSome (place_value s place)) where
    was : (value : T) × (place_value s place ≡ Some value)
    was = held_item (place_value s place) held

    content_is : value_at s.slots place ≡ Some (Some was.0)
    content_is = content_of (value_at s.slots place) was.0 was.1

    below : place < length s.slots.values
    below = place_at_within s.slots.values place (Some was.0) content_is

    pub slot_map_len-slot_map_set_at : (value : T) → slot_map_len (slot_map_set_at s place value) ≡ slot_map_len s
    slot_map_len-slot_map_set_at value = let all = count_held-set s.slots.values place _ (Some (Some value)) below content_is in omega (arith, all)

    pub slot_map_len-slot_map_replace : (value : T) → slot_map_len (slot_map_replace s place value) ≡ slot_map_len s
    slot_map_len-slot_map_replace value = slot_map_len-slot_map_set_at value

    pub slot_map_len-slot_map_vacate : slot_map_len (slot_map_vacate s place) + 1 ≡ slot_map_len s
    slot_map_len-slot_map_vacate = let all = count_held-set s.slots.values place _ None below content_is in omega (arith, all)

    pub slot_map_len-slot_map_retire : slot_map_len (slot_map_retire s place) + 1 ≡ slot_map_len s
    slot_map_len-slot_map_retire = let all = count_held-set s.slots.values place _ (Some None) below content_is in omega (arith, all)

  -- of two states: no more keys are held than were, and no fewer places are free
  pub record ThinsMap (s new : SlotMapState T) : Type 0 where
    pub count : slot_map_len new ≤ slot_map_len s
    pub room : length s.slots.free ≤ length new.slots.free

  pub ThinsMap-refl : (s : SlotMapState T) → ThinsMap s s
  ThinsMap-refl s = record { count = omega arith; room = omega arith }

  pub ThinsMap-trans : (s t new : SlotMapState T) → ThinsMap s t → ThinsMap t new → ThinsMap s new
  ThinsMap-trans s t new before after =
      let one = before.count in let two = after.count in
      let three = before.room in let four = after.room in record { count = omega (arith, one, two); room = omega (arith, three, four) }

  removal : (s : SlotMapState T) (place : ℕ) (content : Option T) → place_value s place ≡ content → slot_map_remove_at s place ≡ (if is_some content then (if is_raisable s place then slot_map_vacate s place else slot_map_retire s place) else s)
  removal s place content at =
      ap (λ c. if is_some c then (if is_raisable s place then slot_map_vacate s place else slot_map_retire s place) else s) (slot_map_value-key_at s place ∙ at)

  pub ThinsMap-slot_map_remove_at : (s : SlotMapState T) (place : ℕ) → ThinsMap s (slot_map_remove_at s place)
  ThinsMap-slot_map_remove_at s place = go (place_value s place) refl
    where
      go : (content : Option T) → place_value s place ≡ content → ThinsMap s (slot_map_remove_at s place)
      go None at = subst (ThinsMap s) (sym (removal s place None at)) (ThinsMap-refl s)
      go (Some value) at =
          let held = subst IsSome (sym at) refl in
          subst (ThinsMap s) (sym (removal s place (Some value) at)) (either held (is_raisable s place))
        where
          either : IsSome (place_value s place) → (b : Bool) → ThinsMap s (if b then slot_map_vacate s place else slot_map_retire s place)
          either held true = let less = slot_map_len-slot_map_vacate s place held in record { count = omega (arith, less); room = omega arith }
          either held false = let less = slot_map_len-slot_map_retire s place held in record { count = omega (arith, less); room = omega arith }

  -- what is left once the key of a place is removed
  record Removes (s : SlotMapState T) (place : ℕ) (new : SlotMapState T) : Type 0 where
    settles : SettlesPlace s place new
    generations : length new.generations ≡ length s.generations
    gone : place_value new place ≡ None
    killed : IsSome (place_value s place) → IsDead new (key_at s place)
    dead : (key : SlotKey) → IsDead s key → IsDead new key

  -- a place that is settled leaves the dead keys of others dead
  dead_elsewhere : (s : SlotMapState T) (place : ℕ) (new : SlotMapState T) → SettlesPlace s place new → (key : SlotKey) → key.index ≢ place → IsDead s key → IsDead new key
  dead_elsewhere s place new settles key apart (inl past) = inl (let same = settles.capacity in omega arith)
  dead_elsewhere s place new settles key apart (inr (inl retired)) = inr (inl (settles.kept key.index apart ∙ retired))
  dead_elsewhere s place new settles key apart (inr (inr lower)) = inr (inr (let same = settles.generations key.index apart in omega arith))

  -- a place that has a value can be that of a dead key only by its generation
  dead_here : (s : SlotMapState T) (key : SlotKey) (value : T) → place_value s key.index ≡ Some value → IsDead s key → key.generation < generation_at s key.index
  dead_here s key value at (inl past) =
      let none : Some value ≡ None = sym at ∙ ap option_flatten (place_at_past s.slots.values key.index past) in absurd (cc)
  dead_here s key value at (inr (inl retired)) = let none : Some value ≡ None = sym at ∙ ap option_flatten retired in absurd (cc)
  dead_here s key value at (inr (inr lower)) = lower

  module _ (s : SlotMapState T) (place : ℕ) (long : length s.generations ≡ length s.slots.values) where
    module _ (value : T) (at : place_value s place ≡ Some value) where
      held : IsSome (place_value s place)
      held = subst IsSome (sym at) refl

      within : place < length s.slots.values
      within = below s place held

      raised : generation_at (slot_map_vacate s place) place ≡ generation_at s place + 1
      raised = get_or-set_same s.generations place (generation_at s place + 1) 0 (omega (arith, within, long))

      same_generation : (key : SlotKey) → key.index ≡ place → generation_at s key.index ≡ generation_at s place
      same_generation key here = ap (generation_at s) here

      vacated : SettlesPlace s place (slot_map_vacate s place) → Removes s place (slot_map_vacate s place)
      vacated settles = record {
        settles = settles;
        generations = length-set s.generations place (generation_at s place + 1);
        gone = ap option_flatten (get_or-set_same s.slots.values place None None within);
        killed = λ some. inr (inr (let more = raised in omega (arith, more)));
        dead = λ key dead. elim (cases_eq key.index place) [
          | inl here ↦
              let lower = dead_here s key value (ap (place_value s) here ∙ at) dead in
              let now : generation_at (slot_map_vacate s place) key.index ≡ generation_at s place + 1 = ap (generation_at (slot_map_vacate s place)) here ∙ raised in
              let was_generation = same_generation key here in inr (inr (omega (arith, lower, now, was_generation)))
          | inr there ↦ dead_elsewhere s place (slot_map_vacate s place) settles key there dead
        ];
      }

      retired : SettlesPlace s place (slot_map_retire s place) → Removes s place (slot_map_retire s place)
      retired settles = record {
        settles = settles;
        generations = refl;
        gone = ap option_flatten (get_or-set_same s.slots.values place (Some None) None within);
        killed = λ some. inr (inl (get_or-set_same s.slots.values place (Some None) None within));
        dead = λ key dead. elim (cases_eq key.index place) [
          | inl here ↦ inr (inr (dead_here s key value (ap (place_value s) here ∙ at) dead))
          | inr there ↦ dead_elsewhere s place (slot_map_retire s place) settles key there dead
        ];
      }

    removes : Removes s place (slot_map_remove_at s place)
    removes = go (place_value s place) refl
      where
        go : (content : Option T) → place_value s place ≡ content → Removes s place (slot_map_remove_at s place)
        go None at =
            let is = removal s place None at in
            subst (Removes s place) (sym is) (record {
              settles = subst (SettlesPlace s place) is (SettlesPlace-slot_map_remove_at s place (slot_map_remove_at s place) refl);
              generations = refl;
              gone = at;
              killed = λ some. absurd (let no : IsSome (let none : Option T = None in none) = subst IsSome at some in let wrong : false ≡ true = no in cc);
              dead = λ key dead. dead;
            })
        go (Some value) at = elim (cases_Bool (is_raisable s place)) [
          | inl raisable ↦
              let is : slot_map_remove_at s place ≡ slot_map_vacate s place = removal s place (Some value) at ∙ ap (λ (b : Bool). if b then slot_map_vacate s place else slot_map_retire s place) raisable in
              subst (Removes s place) (sym is) (vacated value at (subst (SettlesPlace s place) is (SettlesPlace-slot_map_remove_at s place (slot_map_remove_at s place) refl)))
          | inr last ↦
              let is : slot_map_remove_at s place ≡ slot_map_retire s place = removal s place (Some value) at ∙ ap (λ (b : Bool). if b then slot_map_vacate s place else slot_map_retire s place) last in
              subst (Removes s place) (sym is) (retired value at (subst (SettlesPlace s place) is (SettlesPlace-slot_map_remove_at s place (slot_map_remove_at s place) refl)))
        ]

  -- the key of a place with a value is removed: what a call of `remove` promises
  module _ (s : SlotMapState T) (place : ℕ) (long : length s.generations ≡ length s.slots.values) (value : T) (at : place_value s place ≡ Some value) (new : SlotMapState T) where
    same_place : (key : SlotKey) → key ≢ key_at s place → key.index ≡ place → nat_eq (generation_at s key.index) key.generation ≡ false
    same_place key apart here = elim (cases_Bool (nat_eq (generation_at s key.index) key.generation)) [
      | inl same ↦
          let generation = eqb-true (generation_at s key.index) key.generation same in
          absurd (apart (keys_same key (key_at s place) here (sym generation ∙ ap (generation_at s) here)))
      | inr other ↦ other
    ]

    removed : new ≡ slot_map_remove_at s place → slot_map_len new + 1 ≡ slot_map_len s → (generation_at s place < greatest_generation → length new.slots.free ≡ length s.slots.free + 1)
        → SlotMapRemove s (key_at s place) new (Some value)
    removed is count room =
        let all = subst (Removes s place) (sym is) (removes s place long) in
        let thin = subst (ThinsMap s) (sym is) (ThinsMap-slot_map_remove_at s place) in record {
          value = sym (slot_map_value-key_at s place ∙ at);
          map = is;
          killed = λ some. all.killed (held s place long value at);
          refused = λ none. absurd (cc);
          kept = λ key apart. elim (cases_eq key.index place) [
            | inl here ↦
                if_none _ _ (ap (place_value new) here ∙ all.gone)
                ∙ sym (ap (λ b. if b then place_value s key.index else None) (same_place key apart here))
            | inr there ↦ ap₂ (λ generation content. if nat_eq generation key.generation then content else None) (all.settles.generations key.index there) (ap option_flatten (all.settles.kept key.index there))
          ];
          dead = all.dead;
          count = λ some. count;
          room = λ some less. room less;
          grows = thin.room;
        }

    pub SlotMapRemove-vacates : generation_at s place < greatest_generation → new ≡ slot_map_vacate s place → SlotMapRemove s (key_at s place) new (Some value)
    SlotMapRemove-vacates less is =
        let raisable : is_raisable s place ≡ true = lt-ltb _ _ less in
        removed (is ∙ sym (removal s place (Some value) at ∙ ap (λ (b : Bool). if b then slot_map_vacate s place else slot_map_retire s place) raisable))
        (ap (λ (t : SlotMapState T). slot_map_len t + 1) is ∙ slot_map_len-slot_map_vacate s place (held s place long value at))
        (λ less. let one = ap (λ (t : SlotMapState T). length t.slots.free) is in omega (arith, one))

    pub SlotMapRemove-retires : generation_at s place ≡ greatest_generation → new ≡ slot_map_retire s place → SlotMapRemove s (key_at s place) new (Some value)
    SlotMapRemove-retires last is =
        let raised : is_raisable s place ≡ false = grind (arith, nat_tests) in
        removed (is ∙ sym (removal s place (Some value) at ∙ ap (λ (b : Bool). if b then slot_map_vacate s place else slot_map_retire s place) raised))
        (ap (λ (t : SlotMapState T). slot_map_len t + 1) is ∙ slot_map_len-slot_map_retire s place (held s place long value at))
        (λ less. absurd (omega (arith, less, last)))

  pub SlotMapRemove-held_key : (s : SlotMapState T) (key : SlotKey) (place : ℕ) (new : SlotMapState T) (result : Option T) → IsSome (slot_map_value s key) → place ≡ key.index
      → SlotMapRemove s (key_at s place) new result → SlotMapRemove s key new result
  SlotMapRemove-held_key s key place new result held same step =
      subst (λ k. SlotMapRemove s k new result) (ap (key_at s) same ∙ sym (held_key s key held).0) step

  -- a place whose value is written or removed
  pub ThinsMap-retained : (s : SlotMapState T) (place : ℕ) (value left : T) (keep : Bool) (new : SlotMapState T) → place_value s place ≡ Some value
      → new ≡ (if keep then slot_map_set_at s place left else slot_map_remove_at s place) → ThinsMap s new
  ThinsMap-retained s place value left true new at is =
      let same = slot_map_len-slot_map_set_at s place (subst IsSome (sym at) refl) left in subst (ThinsMap s) (sym is) (record { count = omega (arith, same); room = omega arith })
  ThinsMap-retained s place value left false new at is = subst (ThinsMap s) (sym is) (ThinsMap-slot_map_remove_at s place)

  -- the keys of the first places are removed
  record ClearedPlaces (s new : SlotMapState T) (n : ℕ) : Type 0 where
    capacity : length new.slots.values ≡ length s.slots.values
    generations : length new.generations ≡ length s.generations
    gone : (place : ℕ) → place < n → place_value new place ≡ None
    rest : (place : ℕ) → n ≤ place → (value_at new.slots place ≡ value_at s.slots place) × (generation_at new place ≡ generation_at s place)
    killed : (place : ℕ) → place < n → IsSome (place_value s place) → IsDead new (key_at s place)
    dead : (key : SlotKey) → IsDead s key → IsDead new key
    thins : ThinsMap s new

  module _ (s : SlotMapState T) (long : length s.generations ≡ length s.slots.values) where
    cleared : (n : ℕ) → ClearedPlaces s (fold slot_map_remove_at s (range_with_len 0 n)) n
    cleared zero = record {
      capacity = refl;
      generations = refl;
      gone = λ place less. absurd (omega arith);
      rest = λ place past. (refl, refl);
      killed = λ place less. absurd (omega arith);
      dead = λ key dead. dead;
      thins = ThinsMap-refl s;
    }
    cleared (suc n) =
        let before = fold slot_map_remove_at s (range_with_len 0 n) in
        let new = slot_map_remove_at before n in
        let at = cleared n in
        let next : suc n ≡ n + 1 = omega arith in
        let is = ap (λ k. fold slot_map_remove_at s (range_with_len 0 k)) next ∙ fold-range_with_len slot_map_remove_at s n in
        let step = removes before n (at.generations ∙ long ∙ sym at.capacity) in
        let here = at.rest n (omega arith) in
        let key : key_at before n ≡ key_at s n = ap (λ (g : ℕ). let k : SlotKey = record { index = n; generation = g } in k) here.1 in
        subst (λ new. ClearedPlaces s new (suc n)) (sym is) (record {
          capacity = step.settles.capacity ∙ at.capacity;
          generations = step.generations ∙ at.generations;
          gone = λ place less. elim (cases_eq place n) [
            | inl same ↦ ap (place_value new) same ∙ step.gone
            | inr apart ↦ ap option_flatten (step.settles.kept place apart) ∙ at.gone place (omega arith)
          ];
          rest = λ place past. let apart : place ≢ n = λ e. omega arith in
              (step.settles.kept place apart ∙ (at.rest place (omega arith)).0, step.settles.generations place apart ∙ (at.rest place (omega arith)).1);
          killed = λ place less some. elim (cases_eq place n) [
            | inl same ↦
                let held = subst (λ (c : Option (Option T)). IsSome (option_flatten c)) (sym here.0) (subst (λ k. IsSome (place_value s k)) same some) in
                subst (λ k. IsDead new (key_at s k)) (sym same) (subst (IsDead new) key (step.killed held))
            | inr apart ↦ step.dead (key_at s place) (at.killed place (omega arith) some)
          ];
          dead = λ key dead. step.dead key (at.dead key dead);
          thins = ThinsMap-trans s before new at.thins (ThinsMap-slot_map_remove_at before n);
        })

    -- each key that was held is dead once the map was cleared, and a dead one stays dead
    pub IsDead-slot_map_clear_held : (key : SlotKey) → IsSome (slot_map_value s key) → IsDead (slot_map_clear s) key
    IsDead-slot_map_clear_held key some =
        let is = held_key s key some in
        subst (IsDead (slot_map_clear s)) (sym is.0) ((cleared (length s.slots.values)).killed key.index (below s key.index is.1) is.1)

    pub IsDead-slot_map_clear : (key : SlotKey) → IsDead s key → IsDead (slot_map_clear s) key
    IsDead-slot_map_clear key dead = (cleared (length s.slots.values)).dead key dead

    -- no place has a value then, and no fewer are free
    pub place_value-slot_map_clear : (place : ℕ) → place_value (slot_map_clear s) place ≡ None
    place_value-slot_map_clear place =
        let at = cleared (length s.slots.values) in elim (cases_lt place (length s.slots.values)) [
          | inl less ↦ at.gone place less
          | inr past ↦ ap option_flatten (place_at_past (slot_map_clear s).slots.values place (let same = at.capacity in omega arith))
        ]

    pub slot_map_len-slot_map_clear : slot_map_len (slot_map_clear s) ≡ 0
    slot_map_len-slot_map_clear = none_held (slot_map_clear s).slots.values place_value-slot_map_clear
      where
        none_held : (values : List (Option (Option T))) → ((i : ℕ) → option_flatten (place_at values i) ≡ None) → count_by (λ c. is_some (option_flatten c)) values ≡ 0
        none_held [] none = refl
        none_held (c ∷ values) none =
            let one = sum_by-cons one_if_held c values in
            let first : one_if_held c ≡ 0 = ap (λ (x : Option T). if is_some x then 1 else 0) (none 0) in
            let later = none_held values (λ i. none (suc i)) in omega (arith, one, first, later)

    pub room-slot_map_clear : length s.slots.free ≤ length (slot_map_clear s).slots.free
    room-slot_map_clear = (cleared (length s.slots.values)).thins.room
