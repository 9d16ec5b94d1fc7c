-- After each step of a slot table its tables represent the new slot state.
use Rattle.std.proofs.Common.{◌≡◌, ℕ, zero, suc, ◌+◌, ◌-◌, ◌<◌, ◌≤◌, ◌≢◌, inl, inr, List, [], ◌∷◌, ◌++◌, length, set, true, false, Option, Some, None, IsSome, IfSome, refl, sym, ap, ◌∙◌, subst, arith}
use Rattle.std.specs.Prelude.{replicate, nat_eq, nat_lt, if◌then◌else◌, is_some, slice_get}
use Rattle.std.specs.Option.{option_map_or}
use Rattle.std.specs.List.{range_with_len}
use Rattle.std.proofs.lemmas.Bool.{cases_eq, cases_lt}
use Rattle.std.proofs.lemmas.Bool.Decides.{nat_tests}
use Rattle.std.proofs.lemmas.List.{get_or-set_same, get_or-set_other, get_or-replicate, set_past, length-append, length-replicate, length-set}
use Rattle.std.proofs.lemmas.List.Folds.{sum_by-replicate}
use Rattle.std.proofs.lemmas.List.FromFn.{length-range_with_len}
use Rattle.ix_tables.specs.Places.{place_at}
use Rattle.ix_slottable.specs.declared.slottable.link.Link.{Link}
use Rattle.ix_slottable.specs.SlotTableState.{SlotTableState, value_at, IsHeld, IsFree, held_count, slot_table_new}
use Rattle.ix_slottable.specs.SlotTableSteps.{slot_table_fill, slot_table_vacate, slot_table_insert, SlotTableInsert, SlotTableInsertAt, SlotTableRemove}
use Rattle.ix_slottable.specs.inner.FreeList.{no_key, held_link, free_link, first_or, last_or, IsChain, IsKeyOrNone, IsLinkWithin, links_set_next, links_set_previous, links_remove, links_remove_first, links_insert_first, first_after_remove, IsRisingList, Represents}
use Rattle.ix_slottable.proofs.Entries.{one_if_held}
use Rattle.ix_slottable.proofs.Counts.{count_by-set_more, count_by-set_same, count_by-set_less, held_count-slot_table_fill, free-slot_table_fill}
use Rattle.ix_slottable.proofs.FreeKeys.{key_count, key_count-cons, hit, hit_same, hit_other, key_count-append, keys_without-absent, apart_from_last_or, apart_from_first_or, key_count-range_past, key_count-range_within}
use Rattle.ix_tables.proofs.Places.{held_item, held_within, place_at_within}
use Rattle.ix_slottable.proofs.Chains.{IsChain-append, IsChain-set_other, IsChain-links_set_next, IsChain-links_set_previous}
use Rattle.ix_slottable.proofs.SlotTables.{Shows, Shows-from, represents_of, place_of, key_count_le_one, key_count-no_key, key_count-held, IsLinkTable-shown, IsLinkWithin-shown, occurs-free}

-- the first key after one is removed
first_after_remove-append : (front back : List ℕ) (key first : ℕ) → key_count no_key front ≡ 0 → first ≡ first_or (front ++ key ∷ back) no_key → first_after_remove first (free_link (last_or no_key front) (first_or back no_key)) ≡ first_or (front ++ back) no_key
first_after_remove-append [] back key first none is = refl
first_after_remove-append (other ∷ front) back key first none is =
    let all = key_count-cons no_key other front in
    let last_apart = apart_from_last_or no_key other front (omega arith) (λ e. (let hits = hit_same no_key other e in omega arith)) in
    let no : nat_eq (last_or other front) no_key ≡ false = grind (arith, nat_tests) in
    ap (λ b. if b then first_or back no_key else first) no ∙ is

-- no key is before the first one, so that of the other links only that of the next key changes
links_remove-first : (links : List (Option Link)) (key next : ℕ) → length links ≤ no_key → links_remove links key (free_link no_key next) ≡ links_remove_first links key next
links_remove-first links key next fits =
    ap (λ ls. links_set_previous ls next no_key) (set_past (set links key (Some (held_link key))) no_key _ (let same = length-set links key (Some (held_link key)) in omega arith))

module _ {T : Type 0} where
  module _ (s : SlotTableState T) (links : List (Option Link)) (first len : ℕ) (r : Represents s links first len) where
    -- a free key gets a value
    Represents-slot_table_fill : (key : ℕ) (value : T) (link : Link) → 0 < key_count key s.free → place_at links key ≡ Some link → Represents (slot_table_fill s key value) (links_remove links key link) (first_after_remove first link) (len + 1)
    Represents-slot_table_fill key value link some at_link =
        let at = place_of s links first len r key some in
        let empty = r.formed.listed_is_free key some in
        let lengths = r.lengths in let low = r.below in
        let before = last_or no_key at.front in
        let after = first_or at.back no_key in
        let same : Some link ≡ Some (free_link before after) = sym at_link ∙ at.at_key in
        let is : link ≡ free_link before after = cc in
        let one = key_count_le_one s links first len r in
        let none = key_count-no_key s links first len r in
        let none_counts = at.counts no_key in
        let held = set links key (Some (held_link key)) in
        let led = links_set_next held before after in
        let all = links_set_previous led after before in
        let front_once : (other : ℕ) → key_count other at.front ≤ 1 = λ other. (let most = one other in let counts = at.counts other in omega arith) in
        let back_once : (other : ℕ) → key_count other at.back ≤ 1 = λ other. (let most = one other in let counts = at.counts other in omega arith) in
        let front_held = IsChain-set_other links key (Some (held_link key)) no_key at.front key (λ other occurs e. (let none_here = at.not_in_front in let moved = ap (λ k. key_count k at.front) e in omega arith)) at.to_key in
        let back_held = IsChain-set_other links key (Some (held_link key)) key at.back no_key (λ other occurs e. (let none_here = at.not_in_back in let moved = ap (λ k. key_count k at.back) e in omega arith)) at.from_key in
        let not_before : (other : ℕ) → key_count other at.front ≡ 0 → other ≢ no_key → other ≢ before = λ other clear apart. apart_from_last_or other no_key at.front clear apart in
        let not_after : (other : ℕ) → key_count other at.back ≡ 0 → other ≢ no_key → other ≢ after = λ other clear apart. apart_from_first_or other no_key at.back clear apart in
        let front_led = IsChain-links_set_next held no_key at.front key after front_once front_held in
        let known : (other : ℕ) → 0 < key_count other s.free → other ≢ no_key = λ other occurs e. (let moved = ap (λ k. key_count k s.free) e in omega arith) in
        let back_led = IsChain-set_other held before _ key at.back no_key (λ other occurs. not_before other (let most = one other in let counts = at.counts other in omega arith) (known other (let counts = at.counts other in omega arith))) back_held in
        let back_all = IsChain-links_set_previous led key at.back no_key before back_once back_led in
        let front_all = IsChain-set_other led after _ no_key at.front after (λ other occurs. not_after other (let most = one other in let counts = at.counts other in omega arith) (known other (let counts = at.counts other in omega arith))) front_led in
        let links_len : length all ≡ length links = length-set led after _ ∙ length-set held before _ ∙ length-set links key _ in
        let values_len = length-set s.values key (Some value) in
        let made : Represents (slot_table_fill s key value) all (first_after_remove first (free_link before after)) (len + 1) = record {
          lengths = links_len ∙ lengths ∙ sym values_len;
          below = omega arith;
          chain = subst (λ keys. IsChain all no_key keys no_key) (sym at.rest) (IsChain-append all no_key at.front at.back no_key front_all back_all);
          head = first_after_remove-append at.front at.back key first (omega arith) at.head ∙ ap (λ keys. first_or keys no_key) (sym at.rest);
          others = λ other within clear.
              let parts = ap (key_count other) at.rest ∙ key_count-append other at.front at.back in
              let in_range : other ≢ no_key = λ e. omega arith in
              get_or-set_other led after other _ None (not_after other (omega arith) in_range)
              ∙ get_or-set_other held before other _ None (not_before other (omega arith) in_range)
              ∙ elim (cases_eq other key) [
                | inl here ↦ ap (place_at held) here ∙ get_or-set_same links key (Some (held_link key)) None (omega arith) ∙ ap (λ k. Some (held_link k)) (sym here)
                | inr there ↦ let miss = hit_other other key there in let counts = at.counts other in
                    get_or-set_other links key other (Some (held_link key)) None there ∙ r.others other (omega arith) (omega arith)
              ];
          formed = record {
            listed_is_free = λ other occurs.
                let parts = ap (key_count other) at.rest ∙ key_count-append other at.front at.back in
                let counts = at.counts other in
                let was = r.formed.listed_is_free other (omega arith) in
                let apart : other ≢ key = λ e. (let front_none = at.not_in_front in let back_none = at.not_in_back in let as_front = ap (λ k. key_count k at.front) e in let as_back = ap (λ k. key_count k at.back) e in omega arith) in
                (let below = was.0 in omega arith, get_or-set_other s.values key other (Some value) None apart ∙ was.1);
            free_is_listed = λ other is_empty.
                let parts = ap (key_count other) at.rest ∙ key_count-append other at.front at.back in
                let counts = at.counts other in
                let apart : other ≢ key = λ e. (let no : Some value ≡ None = sym (ap (place_at (set s.values key (Some value))) e ∙ get_or-set_same s.values key (Some value) None empty.0) ∙ is_empty.1 in absurd (cc)) in
                let miss = hit_other other key apart in
                let was = r.formed.free_is_listed other (let below = is_empty.0 in omega arith, sym (get_or-set_other s.values key other (Some value) None apart) ∙ is_empty.1) in omega arith;
          };
          held = let was = r.held in let more = count_by-set_more s.values key value empty.0 empty.1 in omega arith;
          counted = let was = r.counted in let keys = at.lengths in let left = ap length at.rest ∙ length-append at.front at.back in omega arith;
        } in
        subst (λ (l : Link). Represents (slot_table_fill s key value) (links_remove links key l) (first_after_remove first l) (len + 1)) (sym is) made

    -- a held key gets another value
    Represents-slot_table_set : (key : ℕ) (value : T) → IsHeld s key → Represents (slot_table_fill s key value) links first len
    Represents-slot_table_set key value held =
        let was = held_item (value_at s key) held in
        let below = held_within s.values key held in
        let none = key_count-held s links first len r key held in
        let values_len = length-set s.values key (Some value) in
        let low = r.below in
        subst (λ keys. let t : SlotTableState T = record { values = set s.values key (Some value); free = keys } in Represents t links first len) (sym (keys_without-absent key s.free none)) (record {
          lengths = r.lengths ∙ sym values_len;
          below = omega arith;
          chain = r.chain;
          head = r.head;
          others = r.others;
          formed = record {
            listed_is_free = λ other occurs.
                let old = r.formed.listed_is_free other occurs in
                let apart : other ≢ key = λ e. (let moved = ap (λ k. key_count k s.free) e in omega arith) in
                (let within = old.0 in omega arith, get_or-set_other s.values key other (Some value) None apart ∙ old.1);
            free_is_listed = λ other is_empty.
                let apart : other ≢ key = λ e. (let no : Some value ≡ None = sym (ap (place_at (set s.values key (Some value))) e ∙ get_or-set_same s.values key (Some value) None below) ∙ is_empty.1 in absurd (cc)) in
                r.formed.free_is_listed other (let within = is_empty.0 in omega arith, sym (get_or-set_other s.values key other (Some value) None apart) ∙ is_empty.1);
          };
          held = let old = r.held in let all = count_by-set_same s.values key was.0 value below was.1 in omega arith;
          counted = let old = r.counted in omega arith;
        })

    -- a held key loses its value
    Represents-slot_table_vacate : (key : ℕ) → IsHeld s key → Represents (slot_table_vacate s key) (links_insert_first links key first) key (len - 1)
    Represents-slot_table_vacate key held =
        let was = held_item (value_at s key) held in
        let below = held_within s.values key held in
        let none = key_count-held s links first len r key held in
        let lengths = r.lengths in let low = r.below in
        let put = set links key (Some (free_link no_key first)) in
        let all = links_set_previous put first key in
        let less = count_by-set_less s.values key was.0 below was.1 in
        let old_held = r.held in
        let kept = IsChain-set_other links key (Some (free_link no_key first)) no_key s.free no_key (λ other occurs e. (let moved = ap (λ k. key_count k s.free) e in omega arith)) r.chain in
        let led = IsChain-links_set_previous put no_key s.free no_key key (key_count_le_one s links first len r) kept in
        let as_first : links_set_previous put (first_or s.free no_key) key ≡ all = ap (λ k. links_set_previous put k key) (sym r.head) in
        let key_in_range : key ≢ no_key = λ e. omega arith in
        let not_head : (other : ℕ) → key_count other s.free ≡ 0 → other ≢ no_key → other ≢ first = λ other clear apart e. apart_from_first_or other no_key s.free clear apart (e ∙ r.head) in
        let own = get_or-set_other put first key _ None (not_head key none key_in_range) ∙ get_or-set_same links key (Some (free_link no_key first)) None (omega arith) in
        let links_len : length all ≡ length links = length-set put first _ ∙ length-set links key _ in
        let values_len = length-set s.values key None in
        let counts : (other : ℕ) → key_count other (key ∷ s.free) ≡ hit other key + key_count other s.free = λ other. key_count-cons other key s.free in
        record {
          lengths = links_len ∙ lengths ∙ sym values_len;
          below = omega arith;
          chain = (own ∙ ap (λ k. Some (free_link no_key k)) r.head, subst (λ ls. IsChain ls key s.free no_key) as_first led);
          head = refl;
          others = λ other within clear.
              let count = counts other in
              let apart : other ≢ key = λ e. (let hits = hit_same other key e in omega arith) in
              let miss = hit_other other key apart in
              get_or-set_other put first other _ None (not_head other (omega arith) (λ e. omega arith))
              ∙ get_or-set_other links key other (Some (free_link no_key first)) None apart
              ∙ r.others other (omega arith) (omega arith);
          formed = record {
            listed_is_free = λ other occurs. elim (cases_eq other key) [
              | inl here ↦ (let is = here in omega arith, ap (place_at (set s.values key None)) here ∙ get_or-set_same s.values key None None below)
              | inr there ↦ let miss = hit_other other key there in
                  let count = counts other in
                  let old = r.formed.listed_is_free other (omega arith) in
                  (let within = old.0 in omega arith, get_or-set_other s.values key other None None there ∙ old.1)
            ];
            free_is_listed = λ other is_empty. elim (cases_eq other key) [
              | inl here ↦ let hits = hit_same other key here in let count = counts other in let moved = ap (λ k. key_count k s.free) here in omega arith
              | inr there ↦ let miss = hit_other other key there in
                  let count = counts other in
                  let old = r.formed.free_is_listed other (let within = is_empty.0 in omega arith, sym (get_or-set_other s.values key other None None there) ∙ is_empty.1) in omega arith
            ];
          };
          held = omega arith;
          counted = let old = r.counted in omega arith;
        }

  -- the same steps, of the state that contracts see
  pub Shows-slot_table_fill : (s : SlotTableState T) (values values' : List (Option T)) (links links' : List (Option Link)) (first first' len key : ℕ) (value : T) (link : Link) → Shows s values links first len → IsFree s key → place_at links key ≡ Some link → links' ≡ links_remove links key link → first' ≡ first_after_remove first link → values' ≡ set values key (Some value) → Shows (slot_table_fill s key value) values' links' first' (len + 1)
  Shows-slot_table_fill s values values' links links' first first' len key value link shown is_free at links_are first_is values_are =
      let known = represents_of s values links first len shown in
      let some = occurs-free s values links first len key shown is_free in
      Shows-from (slot_table_fill s key value) links' first' (len + 1)
      (subst (λ f. Represents (slot_table_fill s key value) links' f (len + 1)) (sym first_is)
      (subst (λ ls. Represents (slot_table_fill s key value) ls (first_after_remove first link) (len + 1)) (sym links_are)
      (Represents-slot_table_fill s links first len known.0 key value link some at)))
      values' (values_are ∙ ap (λ vs. set vs key (Some value)) known.1)

  -- the first of the free keys: it is free, its link says that no key is before it, and `insert` fills it
  record First (s : SlotTableState T) (links : List (Option Link)) (first : ℕ) (value : T) : Type 0 where
    occurs : 0 < key_count first s.free
    link : (next : ℕ) × (place_at links first ≡ Some (free_link no_key next))
    key : slice_get s.free 0 ≡ Some first
    step : slot_table_fill s first value ≡ slot_table_insert s value

  first_of : (s : SlotTableState T) (links : List (Option Link)) (first : ℕ) (value : T) (keys : List ℕ) → keys ≡ s.free → IsChain links no_key keys no_key → first ≡ first_or keys no_key → keys ≢ [] → First s links first value
  first_of s links first value [] is chain head some = absurd (some refl)
  first_of s links first value (key ∷ keys) is chain head some = record {
    occurs = subst (λ ks. 0 < key_count first ks) is (let hits = hit_same first key head in let all = key_count-cons first key keys in omega arith);
    link = (first_or keys no_key, ap (place_at links) head ∙ chain.0);
    key = sym (ap Some head ∙ ap (λ ks. slice_get ks 0) is);
    step = ap (λ k. option_map_or (λ free. slot_table_fill s free value) (Some k) s) head ∙ ap (λ ks. option_map_or (λ free. slot_table_fill s free value) (slice_get ks 0) s) is;
  }

  -- the same, if a key is free
  module _ (s : SlotTableState T) (values : List (Option T)) (links : List (Option Link)) (first len : ℕ) (value : T) (shown : Shows s values links first len) (some : s.free ≢ []) where
    first_shown : First s links first value
    first_shown =
        let known = (represents_of s values links first len shown).0 in
        first_of s links first value s.free refl known.chain known.head some

    pub first_is_free : IsFree s first
    first_is_free = (represents_of s values links first len shown).0.formed.listed_is_free first first_shown.occurs

    pub next_within : (link : Link) → place_at links first ≡ Some link → IsKeyOrNone link.next links
    next_within link at = (subst (λ place. IsLinkWithin place links) at (IsLinkWithin-shown s values links first len first shown first_is_free)).1

  -- the first free key gets a value
  pub Shows-slot_table_insert : (s : SlotTableState T) (values values' : List (Option T)) (links links' : List (Option Link)) (first len : ℕ) (value : T) (link : Link) → Shows s values links first len → s.free ≢ [] → place_at links first ≡ Some link → links' ≡ links_remove_first links first link.next → values' ≡ set values first (Some value) → Shows (slot_table_insert s value) values' links' link.next (len + 1)
  Shows-slot_table_insert s values values' links links' first len value link shown some at links_are values_are =
      let front = first_shown s values links first len value shown some in
      let is_free = first_is_free s values links first len value shown some in
      let table = IsLinkTable-shown s values links first len shown in
      let same : Some link ≡ Some (free_link no_key front.link.0) = sym at ∙ front.link.1 in
      let is : link ≡ free_link no_key front.link.0 = cc in
      let own : free_link no_key link.next ≡ link = ap (λ (l : Link). free_link no_key l.next) is ∙ sym is in
      let next : link.next ≡ first_after_remove first link = ap (λ (l : Link). first_after_remove first l) own in
      subst (λ t. Shows t values' links' link.next (len + 1)) front.step
      (Shows-slot_table_fill s values values' links links' first link.next len first value link shown is_free at
      (links_are ∙ sym (links_remove-first links first link.next table.within) ∙ ap (links_remove links first) own) next values_are)

  -- a map without free keys refuses
  pub SlotTableInsert-refused : (s : SlotTableState T) (x : T) → s.free ≡ [] → SlotTableInsert s x s None
  SlotTableInsert-refused s x empty =
      record {
        key = sym (ap (λ keys. slice_get keys 0) empty);
        map = sym (ap (λ keys. option_map_or (λ key. slot_table_fill s key x) (slice_get keys 0) s) empty);
        was_free = tt;
        holds = tt;
        full = ((λ _. empty), (λ _. refl));
        refused = λ _. refl;
        kept = λ _ _. refl;
        count = λ some. absurd (let no : false ≡ true = some in cc);
        room = λ some. absurd (let no : false ≡ true = some in cc);
      }

  -- a map with a free key inserts
  pub SlotTableInsert-filled : (s : SlotTableState T) (values : List (Option T)) (links : List (Option Link)) (first len : ℕ) (x : T) (new : SlotTableState T) → Shows s values links first len → s.free ≢ [] → new ≡ slot_table_insert s x → SlotTableInsert s x new (Some first)
  SlotTableInsert-filled s values links first len x new shown some is =
      let known = (represents_of s values links first len shown).0 in
      let front = first_shown s values links first len x shown some in
      let is_free = first_is_free s values links first len x shown some in
      let filled : new ≡ slot_table_fill s first x = is ∙ sym front.step in
      record {
        key = sym front.key;
        map = is;
        was_free = is_free;
        holds = ap (λ t. value_at t first) filled ∙ get_or-set_same s.values first (Some x) None is_free.0;
        full = ((λ none. absurd (let no : true ≡ false = none in cc)), (λ none. absurd (some none)));
        refused = λ none. absurd (let no : true ≡ false = none in cc);
        kept = λ other apart. ap (λ t. value_at t other) filled ∙ get_or-set_other s.values first other (Some x) None (λ e. apart (ap Some (sym e)));
        count = λ _. ap held_count filled ∙ held_count-slot_table_fill s first x is_free;
        room = λ _. ap (λ (t : SlotTableState T). length t.free + 1) filled ∙ free-slot_table_fill s first x known.formed is_free;
      }

  pub Shows-slot_table_set : (s : SlotTableState T) (values values' : List (Option T)) (links : List (Option Link)) (first len key : ℕ) (value : T) → Shows s values links first len → IsHeld s key → values' ≡ set values key (Some value) → Shows (slot_table_fill s key value) values' links first len
  Shows-slot_table_set s values values' links first len key value shown held values_are =
      let known = represents_of s values links first len shown in
      Shows-from (slot_table_fill s key value) links first len (Represents-slot_table_set s links first len known.0 key value held)
      values' (values_are ∙ ap (λ vs. set vs key (Some value)) known.1)

  pub Shows-slot_table_vacate : (s : SlotTableState T) (values values' : List (Option T)) (links links' : List (Option Link)) (first first' len len' key : ℕ) → Shows s values links first len → IsHeld s key → links' ≡ links_insert_first links key first → first' ≡ key → len' ≡ len - 1 → values' ≡ set values key None → Shows (slot_table_vacate s key) values' links' first' len'
  Shows-slot_table_vacate s values values' links links' first first' len len' key shown held links_are first_is len_is values_are =
      let known = represents_of s values links first len shown in
      Shows-from (slot_table_vacate s key) links' first' len'
      (subst (λ n. Represents (slot_table_vacate s key) links' first' n) (sym len_is)
      (subst (λ f. Represents (slot_table_vacate s key) links' f (len - 1)) (sym first_is)
      (subst (λ ls. Represents (slot_table_vacate s key) ls key (len - 1)) (sym links_are)
      (Represents-slot_table_vacate s links first len known.0 key held))))
      values' (values_are ∙ ap (λ vs. set vs key None) known.1)

first_or-range : (capacity key count : ℕ) → key + suc count ≡ capacity → (if nat_eq (key + 1) capacity then no_key else key + 1) ≡ first_or (range_with_len (key + 1) count) no_key
first_or-range capacity key zero all = grind (arith, nat_tests)
first_or-range capacity key (suc count) all = grind (arith, nat_tests)

IsChain-rising : (links : List (Option Link)) (capacity : ℕ) → IsRisingList capacity links → (key count : ℕ) → key + count ≡ capacity → IsChain links (if nat_eq key 0 then no_key else key - 1) (range_with_len key count) no_key
IsChain-rising links capacity rising key zero all = tt
IsChain-rising links capacity rising key (suc count) all =
    let after = first_or-range capacity key count all in
    let before : (if nat_eq (key + 1) 0 then no_key else key + 1 - 1) ≡ key = grind (arith, nat_tests) in (
      rising.1 key (omega arith) ∙ ap (λ next. Some (free_link (if nat_eq key 0 then no_key else key - 1) next)) after,
      subst (λ b. IsChain links b (range_with_len (key + 1) count) no_key) before (IsChain-rising links capacity rising (key + 1) count (omega arith)),
    )

module _ {T : Type 0} where
  -- two new tables represent an empty map
  Represents-slot_table_new : (links : List (Option Link)) (first capacity : ℕ) → IsRisingList capacity links → first ≡ first_or (range_with_len 0 capacity) no_key → capacity ≤ no_key → Represents (slot_table_new {T = T} capacity) links first 0
  Represents-slot_table_new links first capacity rising first_is fits =
      let values_len = length-replicate capacity (let none : Option T = None in none) in
      let keys_len = length-range_with_len 0 capacity in
      let links_len = rising.0 in
      record {
        lengths = links_len ∙ sym values_len;
        below = omega arith;
        chain = IsChain-rising links capacity rising 0 capacity (omega arith);
        head = first_is;
        others = λ key within none. (let one = key_count-range_within 0 capacity key (omega arith) (omega arith) in absurd (omega arith));
        formed = record {
          listed_is_free = λ key occurs. elim (cases_lt key capacity) [
            | inl below ↦ (omega arith, get_or-replicate capacity key None None below)
            | inr past ↦ let none = key_count-range_past 0 capacity key (omega arith) in absurd (omega arith)
          ];
          free_is_listed = λ key is_empty. key_count-range_within 0 capacity key (omega arith) (let below = is_empty.0 in omega arith);
        };
        held = sym (sum_by-replicate one_if_held capacity None ∙ (omega arith));
        counted = omega arith;
      }

  pub Shows-slot_table_new : (values : List (Option T)) (links : List (Option Link)) (first capacity : ℕ) → values ≡ replicate capacity None → IsRisingList capacity links → first ≡ first_or (range_with_len 0 capacity) no_key → capacity ≤ no_key → Shows (slot_table_new capacity) values links first 0
  Shows-slot_table_new values links first capacity values_are rising first_is fits =
      Shows-from (slot_table_new capacity) links first 0 (Represents-slot_table_new links first capacity rising first_is fits) values values_are

module _ {T : Type 0} where
  -- a held key that loses its value is removed
  pub SlotTableRemove-vacated : (s : SlotTableState T) (key : ℕ) (value : T) (new : SlotTableState T) → value_at s key ≡ Some value → new ≡ slot_table_vacate s key → SlotTableRemove s key new (Some value)
  SlotTableRemove-vacated s key value new at is =
      let below = place_at_within s.values key value at in
      record {
        value = sym at;
        map = is ∙ sym (ap (λ place. if is_some place then slot_table_vacate s key else s) at);
        gone = ap (λ (t : SlotTableState T). value_at t key) is ∙ get_or-set_same s.values key None None below;
        refused = λ none. absurd (let no : true ≡ false = none in cc);
        kept = λ other apart. ap (λ (t : SlotTableState T). value_at t other) is ∙ get_or-set_other s.values key other None None apart;
        count = λ _. ap (λ (t : SlotTableState T). held_count t + 1) is ∙ count_by-set_less s.values key value below at;
        room = λ _. ap (λ (t : SlotTableState T). length t.free) is ∙ omega arith;
      }

  -- what is inserted is at the key that is returned
  pub SlotTableInsert-fills : (s : SlotTableState T) (value : T) (new : SlotTableState T) (key : ℕ) → SlotTableInsert s value new (Some key) → new ≡ slot_table_fill s key value
  SlotTableInsert-fills s value new key step = step.map ∙ ap (λ first. option_map_or (λ key. slot_table_fill s key value) first s) (sym step.key)

  -- a held key keeps its value
  pub SlotTableInsert-held : (s : SlotTableState T) (value : T) (new : SlotTableState T) (result : Option ℕ) → SlotTableInsert s value new result → (key : ℕ) → IsHeld s key → value_at new key ≡ value_at s key
  SlotTableInsert-held s value new result step key held = step.kept key (λ is.
      let empty = (subst (λ (r : Option ℕ). IfSome r (IsFree s)) is step.was_free).1 in
      absurd (let no : false ≡ true = subst IsSome empty held in cc))

  pub SlotTableInsertAt-fills : (s : SlotTableState T) (key : ℕ) (value : T) (new : SlotTableState T) → SlotTableInsertAt s key value new true → new ≡ slot_table_fill s key value
  SlotTableInsertAt-fills s key value new step =
      let below = step.value.0 refl in
      let yes : nat_lt key (length s.values) ≡ true = grind (arith, nat_tests) in
      step.map ∙ ap (λ b. if b then slot_table_fill s key value else s) yes

  pub SlotTableRemove-vacates : (s : SlotTableState T) (key : ℕ) (new : SlotTableState T) (value : T) → SlotTableRemove s key new (Some value) → new ≡ slot_table_vacate s key
  SlotTableRemove-vacates s key new value step = step.map ∙ ap (λ place. if is_some place then slot_table_vacate s key else s) (sym step.value)
