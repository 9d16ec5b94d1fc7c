-- How a slot table keeps its free keys: a doubly linked list in a table of links. No clause of a public method cites this.
use Rattle.std.specs.Prelude.{◌≡◌, ◌≢◌, ℕ, zero, suc, ◌+◌, ◌-◌, ◌<◌, ◌≤◌, List, [], ◌∷◌, ◌++◌, length, nat_eq, count_by, if◌then◌else◌, Option, Some, None, IsSome, option_map, unwrap_or, ◌⊎◌, slice_set}
use Rattle.ix_tables.specs.Places.{place_at, IsHeldAt}
use Rattle.ix_slottable.specs.declared.slottable.link.Link.{Link}
use Rattle.ix_slottable.specs.SlotTableState.{SlotTableState, held_count, IsWellFormed}

-- the number for no key: no table has a key of this number
abbrev pub no_key : ℕ
no_key = 18446744073709551615

-- the link of a held key names the key itself, which is before no free key
abbrev pub held_link : ℕ → Link
held_link key = record { previous = key; next = no_key }

-- the link of a free key between these two
abbrev pub free_link : ℕ → ℕ → Link
free_link previous next = record { previous = previous; next = next }

-- the first of some keys, or another key if there are none
abbrev pub first_or : List ℕ → ℕ → ℕ
first_or [] other = other
first_or (key ∷ keys) other = key

-- the last of some keys, or another key if there are none
abbrev pub last_or : ℕ → List ℕ → ℕ
last_or other [] = other
last_or other (key ∷ keys) = last_or key keys

-- the keys met from this key on, at most so many
abbrev pub links_keys_from : ℕ → List (Option Link) → ℕ → List ℕ
links_keys_from zero links key = []
links_keys_from (suc steps) links key =
    unwrap_or (option_map (λ (link : Link). key ∷ links_keys_from steps links link.next) (place_at links key)) []

-- each of the keys is linked to the one before it and the one after it; `before` precedes the first, `after` follows the last
abbrev pub IsChain : List (Option Link) → ℕ → List ℕ → ℕ → Type 0
IsChain links before [] after = Unit {0}
IsChain links before (key ∷ keys) after =
    (place_at links key ≡ Some (free_link before (first_or keys after))) × IsChain links key keys after

-- the next key of this one is another
abbrev pub links_set_next : List (Option Link) → ℕ → ℕ → List (Option Link)
links_set_next links key to = slice_set links key (option_map (λ (link : Link). record link { next = to }) (place_at links key))

-- the previous key of this one is another
abbrev pub links_set_previous : List (Option Link) → ℕ → ℕ → List (Option Link)
links_set_previous links key to = slice_set links key (option_map (λ (link : Link). record link { previous = to }) (place_at links key))

-- a key that had this link is removed from the list
abbrev pub links_remove : List (Option Link) → ℕ → Link → List (Option Link)
links_remove links key link =
    links_set_previous (links_set_next (slice_set links key (Some (held_link key))) link.previous link.next) link.next link.previous

-- the first key, followed by `next`, is removed from the list
abbrev pub links_remove_first : List (Option Link) → ℕ → ℕ → List (Option Link)
links_remove_first links key next = links_set_previous (slice_set links key (Some (held_link key))) next no_key

-- a key is inserted before `first`, the first of the list
abbrev pub links_insert_first : List (Option Link) → ℕ → ℕ → List (Option Link)
links_insert_first links key first = links_set_previous (slice_set links key (Some (free_link no_key first))) first key

-- the first of the list after a key that had this link is removed
abbrev pub first_after_remove : ℕ → Link → ℕ
first_after_remove first link = if nat_eq link.previous no_key then link.next else first

-- every slot holds a link, and no key is the number for no key
pub record IsLinkTable (links : List (Option Link)) : Type 0 where
  pub within : length links ≤ no_key
  pub held : (key : ℕ) → key < length links → IsHeldAt links key

-- a key of the table, or the number for no key
abbrev pub IsKeyOrNone : ℕ → List (Option Link) → Type 0
IsKeyOrNone key links = (key ≡ no_key) ⊎ (key < length links)

-- the previous and the next key of a link are keys of the table, or no key
abbrev pub IsLinkWithin : Option Link → List (Option Link) → Type 0
IsLinkWithin None links = Unit {0}
IsLinkWithin (Some link) links = IsKeyOrNone link.previous links × IsKeyOrNone link.next links

-- the links of so many keys, all free, in rising order
abbrev pub IsRisingList : ℕ → List (Option Link) → Type 0
IsRisingList capacity links =
    (length links ≡ capacity) × ((key : ℕ) → key < capacity → place_at links key ≡ Some (free_link (if nat_eq key 0 then no_key else key - 1) (if nat_eq (key + 1) capacity then no_key else key + 1)))

module _ {T : Type 0} where
  -- the slot state that contracts see of the two tables and the first free key
  abbrev pub slots_of : List (Option T) → List (Option Link) → ℕ → SlotTableState T
  slots_of values links first = record { values = values; free = links_keys_from (length links) links first }

  -- if the key is in the free list, this is its link: free, between the key before it and the one after it
  abbrev pub IsLinkOf : Link → SlotTableState T → ℕ → Type 0
  IsLinkOf link s key =
      (before after : List ℕ) → s.free ≡ before ++ key ∷ after → link ≡ free_link (last_or no_key before) (first_or after no_key)

  -- a free key has no value, and a held key has one
  abbrev pub MatchesLink : Option T → ℕ → Option Link → Type 0
  MatchesLink value key None = ⊥
  MatchesLink value key (Some link) = (link.previous ≢ key → value ≡ None) × (link.previous ≡ key → IsSome value)

  -- the links say which slots hold a value
  pub record MatchesLinks (values : List (Option T)) (links : List (Option Link)) : Type 0 where
    pub lengths : length links ≡ length values
    pub each : (key : ℕ) → key < length links → MatchesLink (place_at values key) key (place_at links key)

  -- the links are the free list in its order, and every other key has the link of a held one
  pub record Represents (s : SlotTableState T) (links : List (Option Link)) (first len : ℕ) : Type 0 where
    pub lengths : length links ≡ length s.values
    pub below : length s.values ≤ no_key
    pub chain : IsChain links no_key s.free no_key
    pub head : first ≡ first_or s.free no_key
    pub others : (key : ℕ) → key < length links → count_by (nat_eq key) s.free ≡ 0 → place_at links key ≡ Some (held_link key)
    pub formed : IsWellFormed s
    pub held : len ≡ held_count s
    pub counted : len + length s.free ≡ length s.values
