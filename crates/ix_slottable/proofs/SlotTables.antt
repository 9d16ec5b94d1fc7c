-- What is known of two tables that represent a slot state.
use Rattle.std.proofs.Common.{◌≡◌, ◌≢◌, ℕ, zero, suc, ◌+◌, ◌<◌, ◌≤◌, inl, inr, ◌⊎◌, List, [], ◌∷◌, ◌++◌, length, Option, Some, None, IsSome, refl, sym, ap, ap₂, ◌∙◌, subst, arith}
use Rattle.std.proofs.lemmas.Bool.{cases_eq}
use Rattle.std.proofs.lemmas.List.{length-append}
use Rattle.ix_tables.specs.Places.{place_at, IsEmptyAt, IsHeldAt, IsVacant}
use Rattle.ix_slottable.specs.declared.slottable.link.Link.{Link}
use Rattle.ix_slottable.specs.SlotTableState.{SlotTableState, value_at, IsHeld, IsFree, IsWellFormed, held_count}
use Rattle.ix_slottable.specs.SlotTableSteps.{keys_without}
use Rattle.ix_slottable.specs.inner.FreeList.{no_key, held_link, free_link, first_or, last_or, links_keys_from, IsChain, IsLinkTable, IsKeyOrNone, IsLinkWithin, slots_of, IsLinkOf, MatchesLink, MatchesLinks, Represents}
use Rattle.ix_slottable.proofs.FreeKeys.{key_count, key_count-cons, hit, hit_same, key_count-append, split_at_key, first_occurs, apart_from_last_or, apart_from_first_or}
use Rattle.ix_tables.proofs.Places.{place_at_within}
use Rattle.ix_slottable.proofs.Chains.{chain_parts, place_at-chain, links_keys_from-chain}

pub place_at_past : {X : Type 0} (row : List (Option X)) (i : ℕ) → length row ≤ i → place_at row i ≡ None
place_at_past [] i past = refl
place_at_past (v ∷ row) zero past = absurd (omega arith)
place_at_past (v ∷ row) (suc i) past = place_at_past row i (omega arith)

pub IsVacant-from_places : {X : Type 0} (row : List (Option X)) → ((i : ℕ) → i < length row → place_at row i ≡ None) → IsVacant row
IsVacant-from_places [] none = refl
IsVacant-from_places (v ∷ row) none = ap₂ ◌∷◌ (none 0 (omega arith)) (IsVacant-from_places row (λ i below. none (suc i) (omega arith)))

module _ {T : Type 0} where
  pub empty_or_held : (place : Option T) → (place ≡ None) ⊎ IsSome place
  empty_or_held None = inl refl
  empty_or_held (Some x) = inr refl

  -- two tables, a first free key and a number of values represent a slot state, and contracts see it in them
  pub record Shows (s : SlotTableState T) (values : List (Option T)) (links : List (Option Link)) (first len : ℕ) : Type 0 where
    pub sound : Represents (slots_of values links first) links first len
    pub is : slots_of values links first ≡ s

  module _ (s : SlotTableState T) (links : List (Option Link)) (first len : ℕ) (r : Represents s links first len) where
    -- no key occurs twice in the free list
    pub key_count_le_one : (key : ℕ) → key_count key s.free ≤ 1
    key_count_le_one key = elim (cases_eq (key_count key s.free) 0) [
      | inl none ↦ omega arith
      | inr some ↦ let one = r.formed.free_is_listed key (r.formed.listed_is_free key (omega arith)) in omega arith
    ]

    -- a free key is in range
    pub free_within : (key : ℕ) → 0 < key_count key s.free → key < length links
    free_within key some = let below = (r.formed.listed_is_free key some).0 in let lengths = r.lengths in omega arith

    -- the number for no key is not in the free list
    pub key_count-no_key : key_count no_key s.free ≡ 0
    key_count-no_key = elim (cases_eq (key_count no_key s.free) 0) [
      | inl none ↦ none
      | inr some ↦ let below = free_within no_key (omega arith) in let lengths = r.lengths in let fits = r.below in absurd (omega arith)
    ]

    -- there is no free key if there is no first one
    pub nil_from_first : first ≡ no_key → s.free ≡ []
    nil_from_first none = nil_or_first s.free refl
      where
        nil_or_first : (keys : List ℕ) → keys ≡ s.free → s.free ≡ []
        nil_or_first [] is = sym is
        nil_or_first (key ∷ keys) is =
            let at : key ≡ no_key = sym (r.head ∙ ap (λ ks. first_or ks no_key) (sym is)) ∙ none in
            let occurs = first_occurs key keys in
            let moved = ap (λ k. key_count k (key ∷ keys)) at in
            let same = ap (key_count no_key) is in
            let absent = key_count-no_key in absurd (omega arith)

    -- a held key is not free
    pub key_count-held : (key : ℕ) → IsHeld s key → key_count key s.free ≡ 0
    key_count-held key held = elim (cases_eq (key_count key s.free) 0) [
      | inl none ↦ none
      | inr some ↦ let empty = (r.formed.listed_is_free key (omega arith)).1 in absurd (let no = subst IsSome empty held in cc)
    ]

    -- a key in range that is not free is held
    pub rest_is_held : (key : ℕ) → key < length s.values → key_count key s.free ≡ 0 → IsHeld s key
    rest_is_held key below none = elim (empty_or_held (value_at s key)) [
      | inl empty ↦ let one = r.formed.free_is_listed key (below, empty) in absurd (omega arith)
      | inr held ↦ held
    ]

    pub IsLinkTable-links : IsLinkTable links
    IsLinkTable-links = record {
      within = let lengths = r.lengths in let fits = r.below in omega arith;
      held = λ key below. elim (cases_eq (key_count key s.free) 0) [
        | inl none ↦ subst IsSome (sym (r.others key below none)) refl
        | inr some ↦ let at = place_at-chain links no_key s.free no_key key (omega arith) r.chain in subst IsSome (sym at.2) refl
      ];
    }

    pub IsKeyOrNone-first : IsKeyOrNone first links
    IsKeyOrNone-first = elim (cases_eq first no_key) [
      | inl none ↦ inl none
      | inr some ↦ inr (elim (cases_eq (key_count first s.free) 0) [
        | inl none ↦ absurd (apart_from_first_or first no_key s.free none some r.head)
        | inr occurs ↦ free_within first (omega arith)
      ])
    ]

    IsKeyOrNone-first_or : (keys : List ℕ) → ((key : ℕ) → 0 < key_count key keys → 0 < key_count key s.free) → IsKeyOrNone (first_or keys no_key) links
    IsKeyOrNone-first_or keys among = elim (cases_eq (first_or keys no_key) no_key) [
      | inl none ↦ inl none
      | inr some ↦ inr (elim (cases_eq (key_count (first_or keys no_key) keys) 0) [
        | inl none ↦ absurd (apart_from_first_or _ no_key keys none some refl)
        | inr occurs ↦ free_within _ (among _ (omega arith))
      ])
    ]

    IsKeyOrNone-last_or : (keys : List ℕ) → ((key : ℕ) → 0 < key_count key keys → 0 < key_count key s.free) → IsKeyOrNone (last_or no_key keys) links
    IsKeyOrNone-last_or keys among = elim (cases_eq (last_or no_key keys) no_key) [
      | inl none ↦ inl none
      | inr some ↦ inr (elim (cases_eq (key_count (last_or no_key keys) keys) 0) [
        | inl none ↦ absurd (apart_from_last_or _ no_key keys none some refl)
        | inr occurs ↦ free_within _ (among _ (omega arith))
      ])
    ]

    -- a free key's place in the free list: the keys before and after it, and its link
    pub record Placed (key : ℕ) : Type 0 where
      pub front : List ℕ
      pub back : List ℕ
      pub rest : keys_without key s.free ≡ front ++ back
      pub counts : (other : ℕ) → key_count other s.free ≡ key_count other front + (hit other key + key_count other back)
      pub lengths : length s.free ≡ length front + (1 + length back)
      pub not_in_front : key_count key front ≡ 0
      pub not_in_back : key_count key back ≡ 0
      pub at_key : place_at links key ≡ Some (free_link (last_or no_key front) (first_or back no_key))
      pub to_key : IsChain links no_key front key
      pub from_key : IsChain links key back no_key
      pub head : first ≡ first_or (front ++ key ∷ back) no_key

    pub place_of : (key : ℕ) → 0 < key_count key s.free → Placed key
    place_of key some =
        let at = split_at_key key s.free some in
        let parts = chain_parts links no_key at.front key at.back no_key (subst (λ keys. IsChain links no_key keys no_key) at.is r.chain) in
        let counts : (other : ℕ) → key_count other s.free ≡ key_count other at.front + (hit other key + key_count other at.back) = λ other. ap (key_count other) at.is ∙ key_count-append other at.front (key ∷ at.back) ∙ ap (λ n. key_count other at.front + n) (key_count-cons other key at.back) in
        record {
          front = at.front;
          back = at.back;
          rest = at.rest;
          counts = counts;
          lengths = ap length at.is ∙ length-append at.front (key ∷ at.back) ∙ (omega arith);
          not_in_front = at.not_before;
          not_in_back = let here = counts key in let one = hit_same key key refl in let most = key_count_le_one key in omega arith;
          at_key = parts.at_key;
          to_key = parts.to_key;
          from_key = parts.from_key;
          head = r.head ∙ ap (λ keys. first_or keys no_key) at.is;
        }

    pub IsLinkWithin-free : (key : ℕ) → 0 < key_count key s.free → IsLinkWithin (place_at links key) links
    IsLinkWithin-free key some =
        let at = place_of key some in
        subst (λ link. IsLinkWithin link links) (sym at.at_key) (
          IsKeyOrNone-last_or at.front (λ other occurs. let counts = at.counts other in omega arith),
          IsKeyOrNone-first_or at.back (λ other occurs. let counts = at.counts other in omega arith),
        )

    -- a free key is not before itself
    pub not_before_itself : (key : ℕ) (some : 0 < key_count key s.free) → last_or no_key (place_of key some).front ≢ key
    not_before_itself key some same =
        let at = place_of key some in
        let within = free_within key some in
        let lengths = r.lengths in
        let fits = r.below in
        apart_from_last_or key no_key at.front at.not_in_front (λ e. omega arith) (sym same)

    pub MatchesLinks-links : MatchesLinks s.values links
    MatchesLinks-links = record {
      lengths = r.lengths;
      each = λ key below. elim (cases_eq (key_count key s.free) 0) [
        | inl none ↦ subst (MatchesLink (value_at s key) key) (sym (r.others key below none)) (
          λ apart. absurd (apart refl),
          λ held. rest_is_held key (let lengths = r.lengths in omega arith) none,
        )
        | inr some ↦
            let occurs : 0 < key_count key s.free = omega arith in
            subst (MatchesLink (value_at s key) key) (sym (place_of key occurs).at_key) (
              λ apart. (r.formed.listed_is_free key occurs).1,
              λ same. absurd (not_before_itself key occurs same),
            )
      ];
    }

    -- contracts see exactly this slot state in the two tables
    slots_of-links : slots_of s.values links first ≡ s
    slots_of-links =
        let fits = r.counted in let lengths = r.lengths in let low = r.below in
        ap (λ keys. let t : SlotTableState T = record { values = s.values; free = keys } in t)
        (ap (links_keys_from (length links) links) r.head ∙ links_keys_from-chain links (length links) no_key s.free no_key (omega arith) (place_at_past links no_key (omega arith)) r.chain)

    pub Shows-from : (values : List (Option T)) → values ≡ s.values → Shows s values links first len
    Shows-from values is =
        let all = ap (λ vs. slots_of vs links first) is ∙ slots_of-links in
        record { sound = subst (λ t. Represents t links first len) (sym all) r; is = all }

  pub represents_of : (s : SlotTableState T) (values : List (Option T)) (links : List (Option Link)) (first len : ℕ) → Shows s values links first len → Represents s links first len × (values ≡ s.values)
  represents_of s values links first len shown = (subst (λ t. Represents t links first len) shown.is shown.sound, ap (λ (t : SlotTableState T). t.values) shown.is)

  -- each key is held or free
  pub held_count-and-free : (s : SlotTableState T) (values : List (Option T)) (links : List (Option Link)) (first len : ℕ) → Shows s values links first len → held_count s + length s.free ≡ length s.values
  held_count-and-free s values links first len shown =
      let known = (represents_of s values links first len shown).0 in
      let held = known.held in let counted = known.counted in omega (arith, held, counted)

  pub link_held : (s : SlotTableState T) (values : List (Option T)) (links : List (Option Link)) (first len key : ℕ) → Shows s values links first len → key < length s.values → IsHeldAt links key
  link_held s values links first len key shown below =
      let known = (represents_of s values links first len shown).0 in
      let lengths = known.lengths in (IsLinkTable-links s links first len known).held key (omega arith)

  -- the link of a key in the table is its link
  pub IsLinkOf-shown : (s : SlotTableState T) (values : List (Option T)) (links : List (Option Link)) (first len key : ℕ) (link : Link) → Shows s values links first len → place_at links key ≡ Some link → IsLinkOf link s key
  IsLinkOf-shown s values links first len key link shown at = λ before after is.
      let chain = (represents_of s values links first len shown).0.chain in
      let parts = chain_parts links no_key before key after no_key (subst (λ keys. IsChain links no_key keys no_key) is chain) in
      let same : Some link ≡ Some (free_link (last_or no_key before) (first_or after no_key)) = sym at ∙ parts.at_key in cc

  pub free_by_link : (s : SlotTableState T) (values : List (Option T)) (links : List (Option Link)) (first len key : ℕ) (link : Link) → Shows s values links first len → place_at links key ≡ Some link → link.previous ≢ key → IsFree s key
  free_by_link s values links first len key link shown at apart =
      let r = (represents_of s values links first len shown).0 in
      elim (cases_eq (key_count key s.free) 0) [
        | inl none ↦
            let same : Some link ≡ Some (held_link key) = sym at ∙ r.others key (place_at_within links key link at) none in
            let is : link ≡ held_link key = cc in
            absurd (apart (ap (λ (l : Link). l.previous) is))
        | inr some ↦ r.formed.listed_is_free key (omega arith)
      ]

  pub held_by_link : (s : SlotTableState T) (values : List (Option T)) (links : List (Option Link)) (first len key : ℕ) (link : Link) → Shows s values links first len → key < length s.values → place_at links key ≡ Some link → link.previous ≡ key → IsHeld s key
  held_by_link s values links first len key link shown below at held =
      let r = (represents_of s values links first len shown).0 in
      elim (cases_eq (key_count key s.free) 0) [
        | inl none ↦ rest_is_held s links first len r key below none
        | inr some ↦
            let occurs : 0 < key_count key s.free = omega arith in
            let placed = place_of s links first len r key occurs in
            let same : Some link ≡ Some (free_link (last_or no_key placed.front) (first_or placed.back no_key)) = sym at ∙ placed.at_key in
            let is : link ≡ free_link (last_or no_key placed.front) (first_or placed.back no_key) = cc in
            absurd (not_before_itself s links first len r key occurs (sym (ap (λ (l : Link). l.previous) is) ∙ held))
      ]

  -- the same facts, of the state that contracts see
  module _ (s : SlotTableState T) (values : List (Option T)) (links : List (Option Link)) (first len : ℕ) where
    pub IsWellFormed-shown : Shows s values links first len → IsWellFormed s
    IsWellFormed-shown shown = (represents_of s values links first len shown).0.formed

    pub IsLinkTable-shown : Shows s values links first len → IsLinkTable links
    IsLinkTable-shown shown = IsLinkTable-links s links first len (represents_of s values links first len shown).0

    pub IsKeyOrNone-shown_first : Shows s values links first len → IsKeyOrNone first links
    IsKeyOrNone-shown_first shown = IsKeyOrNone-first s links first len (represents_of s values links first len shown).0

    module _ (key : ℕ) (shown : Shows s values links first len) where
      known : Represents s links first len × (values ≡ s.values)
      known = represents_of s values links first len shown

      pub occurs-free : IsFree s key → 0 < key_count key s.free
      occurs-free is_free = let one = known.0.formed.free_is_listed key is_free in omega arith

      pub key_within : IsFree s key → key < length links
      key_within is_free = let below = is_free.0 in let lengths = known.0.lengths in omega arith

      pub IsLinkWithin-shown : IsFree s key → IsLinkWithin (place_at links key) links
      IsLinkWithin-shown is_free = IsLinkWithin-free s links first len known.0 key (occurs-free is_free)

      -- the link of a free key is the one in the table
      pub place_at-free : (link : Link) → IsFree s key → IsLinkOf link s key → place_at links key ≡ Some link
      place_at-free link is_free is_link =
          let split = split_at_key key s.free (occurs-free is_free) in
          let parts = chain_parts links no_key split.front key split.back no_key (subst (λ keys. IsChain links no_key keys no_key) split.is known.0.chain) in
          parts.at_key ∙ ap Some (sym (is_link split.front split.back split.is))

      pub IsEmptyAt-free : IsFree s key → IsEmptyAt values key
      IsEmptyAt-free is_free = subst (λ vs. IsEmptyAt vs key) (sym known.1) is_free
