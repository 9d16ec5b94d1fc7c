-- Worked examples: the steps of a slot map with generations do what users expect.
use Rattle.std.proofs.Common.{ℕ, ◌≡◌, inl, inr, List, [], ◌∷◌, Option, Some, None, option_map, slice_get, refl, lit<, lit≤, arith}
use Rattle.ix_slotmap.specs.Generations.{SlotKey, SlotMapState, key_at, slot_map_value, IsDead, retired_count, slot_map_len, slot_map_entries, slot_map_new, IsSlotMapFormed}
use Rattle.ix_slotmap.specs.SlotMapSteps.{slot_map_insert, slot_map_fill, slot_map_replace, slot_map_remove, CanInsertAt}

abbrev key : ℕ → ℕ → SlotKey
key index generation = record { index = index; generation = generation }

abbrev free : Option (Option ℕ)
free = None

abbrev with : ℕ → Option (Option ℕ)
with value = Some (Some value)

abbrev retired : Option (Option ℕ)
retired = Some None

-- a slot map with these places, the free ones in their order, and the generations of the places
abbrev slot_map : List (Option (Option ℕ)) → List ℕ → List ℕ → SlotMapState ℕ
slot_map places listed generations = record { slots = record { values = places; free = listed }; generations = generations }

-- the key that the value which is inserted next gets
abbrev next_key : SlotMapState ℕ → Option SlotKey
next_key s = option_map (key_at s) (slice_get s.slots.free 0)

-- three places at generation 0, after 10 was inserted
abbrev ten : SlotMapState ℕ
ten = slot_map (with 10 ∷ free ∷ free ∷ []) (1 ∷ 2 ∷ []) (0 ∷ 0 ∷ 0 ∷ [])

-- then its key was removed
abbrev without_ten : SlotMapState ℕ
without_ten = slot_map (free ∷ free ∷ free ∷ []) (0 ∷ 1 ∷ 2 ∷ []) (1 ∷ 0 ∷ 0 ∷ [])

-- then 20 was inserted
abbrev twenty : SlotMapState ℕ
twenty = slot_map (with 20 ∷ free ∷ free ∷ []) (1 ∷ 2 ∷ []) (1 ∷ 0 ∷ 0 ∷ [])

-- then it was replaced by 30
abbrev thirty : SlotMapState ℕ
thirty = slot_map (with 30 ∷ free ∷ free ∷ []) (1 ∷ 2 ∷ []) (2 ∷ 0 ∷ 0 ∷ [])

-- the first value gets the key 0:0
next_key-new : next_key (slot_map_new 3 0) ≡ Some (key 0 0)
next_key-new = refl

-- it takes the first place, which is no longer free
slot_map_insert-new : slot_map_insert (slot_map_new 3 0) 10 ≡ ten
slot_map_insert-new = refl

-- a removed key's place is the first free one, and has the next generation
slot_map_remove-held : slot_map_remove ten (key 0 0) ≡ without_ten
slot_map_remove-held = refl

-- so the next value gets the key 0:1
next_key-removed : next_key without_ten ≡ Some (key 0 1)
next_key-removed = refl

-- it takes that place, whose generation stays
slot_map_insert-removed : slot_map_insert without_ten 20 ≡ twenty
slot_map_insert-removed = refl

-- the key 0:1 has the value
slot_map_value-held : slot_map_value twenty (key 0 1) ≡ Some 20
slot_map_value-held = refl

-- the removed key 0:0 has none
slot_map_value-removed : slot_map_value twenty (key 0 0) ≡ None
slot_map_value-removed = refl

-- and it is not removed again
slot_map_remove-removed : slot_map_remove twenty (key 0 0) ≡ twenty
slot_map_remove-removed = refl

-- a held place takes another value
CanInsertAt-held : CanInsertAt twenty 0
CanInsertAt-held = inr (refl, lit< tt)

-- it has the next generation then
slot_map_replace-held : slot_map_replace twenty 0 30 ≡ thirty
slot_map_replace-held = refl

-- so the new key is 0:2
key_at-replaced : key_at thirty 0 ≡ key 0 2
key_at-replaced = refl

-- the former key has no value
slot_map_value-replaced : slot_map_value thirty (key 0 1) ≡ None
slot_map_value-replaced = refl

-- the place of the new key, removed, is the first free one again
slot_map_remove-replaced : slot_map_remove thirty (key 0 2) ≡ slot_map (free ∷ free ∷ free ∷ []) (0 ∷ 1 ∷ 2 ∷ []) (3 ∷ 0 ∷ 0 ∷ [])
slot_map_remove-replaced = refl

-- a free place of one's own choice takes a value
CanInsertAt-free : CanInsertAt ten 2
CanInsertAt-free = inl (lit< tt, refl)

-- it is no longer free then, and keeps its generation
slot_map_fill-free : slot_map_fill ten 2 5 ≡ slot_map (with 10 ∷ free ∷ with 5 ∷ []) (1 ∷ []) (0 ∷ 0 ∷ 0 ∷ [])
slot_map_fill-free = refl

-- there is no place past the end
CanInsertAt-past : CanInsertAt ten 3 → ⊥
CanInsertAt-past can = elim can [
  | inl empty ↦ let within = empty.0 in omega arith
  | inr held ↦ let is = held.0 in absurd (cc)
]

-- two places at the greatest generation, of which 0 holds 7
abbrev seven : SlotMapState ℕ
seven = slot_map (with 7 ∷ free ∷ []) (1 ∷ []) (4294967295 ∷ 4294967295 ∷ [])

-- then its key was removed, and 8 was inserted
abbrev eight : SlotMapState ℕ
eight = slot_map (retired ∷ with 8 ∷ []) [] (4294967295 ∷ 4294967295 ∷ [])

-- at the greatest generation a removed key's place is retired, and not free again
slot_map_remove-last : slot_map_remove seven (key 0 4294967295) ≡ slot_map (retired ∷ free ∷ []) (1 ∷ []) (4294967295 ∷ 4294967295 ∷ [])
slot_map_remove-last = refl

-- so the next value takes another place
slot_map_insert-retired : slot_map_insert (slot_map (retired ∷ free ∷ []) (1 ∷ []) (4294967295 ∷ 4294967295 ∷ [])) 8 ≡ eight
slot_map_insert-retired = refl

-- one generation earlier the place is free again, at the greatest
slot_map_remove-last_but_one : slot_map_remove (slot_map (with 7 ∷ []) [] (4294967294 ∷ [])) (key 0 4294967294) ≡ slot_map (free ∷ []) (0 ∷ []) (4294967295 ∷ [])
slot_map_remove-last_but_one = refl

-- a map whose places are retired or held is full: no key is next
next_key-full : next_key eight ≡ None
next_key-full = refl

-- and nothing more is inserted
slot_map_insert-full : slot_map_insert eight 9 ≡ eight
slot_map_insert-full = refl

-- one of its places is retired
retired_count-one : retired_count eight ≡ 1
retired_count-one = refl

-- and one is held
slot_map_len-one : slot_map_len eight ≡ 1
slot_map_len-one = refl

-- a retired place takes no value
CanInsertAt-retired : CanInsertAt eight 0 → ⊥
CanInsertAt-retired can = elim can [
  | inl empty ↦ let is = empty.1 in absurd (cc)
  | inr held ↦ let is = held.0 in absurd (cc)
]

-- a held place at the greatest generation takes no other value
CanInsertAt-last : CanInsertAt eight 1 → ⊥
CanInsertAt-last can = elim can [
  | inl empty ↦ let is = empty.1 in absurd (cc)
  | inr held ↦ let less = held.1 in omega arith
]

-- a map whose places are all retired holds nothing, and is full as well
slot_map_remove-all : slot_map_remove eight (key 1 4294967295) ≡ slot_map (retired ∷ retired ∷ []) [] (4294967295 ∷ 4294967295 ∷ [])
slot_map_remove-all = refl

-- keys are listed by their places, without the free and the retired ones
slot_map_entries-two : slot_map_entries (slot_map (retired ∷ with 5 ∷ free ∷ with 7 ∷ []) (2 ∷ []) (4294967295 ∷ 2 ∷ 1 ∷ 0 ∷ [])) ≡ (key 1 2, 5) ∷ (key 3 0, 7) ∷ []
slot_map_entries-two = refl

-- a key past the end is dead
IsDead-past : IsDead eight (key 2 0)
IsDead-past = inl (lit≤ tt)

-- a key of a retired place is dead, at any generation
IsDead-retired : IsDead eight (key 0 4294967295)
IsDead-retired = inr (inl refl)

-- a key is dead whose place has a greater generation
IsDead-passed : IsDead thirty (key 0 1)
IsDead-passed = inr (inr (lit< tt))

-- a held key is not dead
IsDead-held : IsDead thirty (key 0 2) → ⊥
IsDead-held dead = elim dead [
  | inl past ↦ omega arith
  | inr other ↦ elim other [
    | inl is ↦ absurd (cc)
    | inr passed ↦ omega arith
  ]
]

-- nor is a key that its place may get later
IsDead-later : IsDead thirty (key 0 3) → ⊥
IsDead-later dead = elim dead [
  | inl past ↦ omega arith
  | inr other ↦ elim other [
    | inl is ↦ absurd (cc)
    | inr passed ↦ omega arith
  ]
]

-- it has no value yet
slot_map_value-later : slot_map_value thirty (key 0 3) ≡ None
slot_map_value-later = refl

-- no slot map lists a retired place as free
IsSlotMapFormed-listed : IsSlotMapFormed (slot_map (retired ∷ []) (0 ∷ []) (4294967295 ∷ [])) → ⊥
IsSlotMapFormed-listed formed = let usable = formed.listed_is_usable 0 (lit< tt) in usable.unretired refl

-- none has a retired place whose generation could be raised
IsSlotMapFormed-early : IsSlotMapFormed (slot_map (retired ∷ []) [] (4294967294 ∷ [])) → ⊥
IsSlotMapFormed-early formed = let last = formed.retired_is_last 0 refl in omega arith
