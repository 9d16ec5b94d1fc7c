-- Worked examples: the steps of a flat map do what users expect.
use Rattle.std.proofs.Common.{ℕ, ◌≡◌, ◌%◌, List, [], ◌∷◌, Option, Some, None, Bool, refl}
use Rattle.std.specs.Prelude.{nat_eq, Ok, Err}
use Rattle.ix_slottable.specs.SlotTableState.{SlotTableState}
use Rattle.ix_flatmap.specs.MapState.{HasDistinctKeys, map_entry, map_value, map_keys}
use Rattle.ix_flatmap.specs.MapSteps.{map_insert_result, map_insert, map_set, map_remove}
use Rattle.ix_flatmap.specs.declared.map.pair.Pair.{Pair}
use Rattle.ix_flatmap.specs.declared.map.map_error.MapError.TheVariants.{KeyAlreadyExists, IsFull}

-- a flat map with these pairs and free places
abbrev flat : List (Option (Pair ℕ ℕ)) → List ℕ → SlotTableState (Pair ℕ ℕ)
flat pairs free = record { values = pairs; free = free }

abbrev to : ℕ → ℕ → Option (Pair ℕ ℕ)
to key value = Some (record { key = key; value = value })

-- numbers that are equal if both are even, or both odd
abbrev same_parity : ℕ → ℕ → Bool
same_parity a b = nat_eq (a % 2) (b % 2)

-- a new key takes the first free place
map_insert-new : map_insert nat_eq (flat (None ∷ to 6 60 ∷ None ∷ []) (0 ∷ 2 ∷ [])) 7 70 ≡ flat (to 7 70 ∷ to 6 60 ∷ None ∷ []) (2 ∷ [])
map_insert-new = refl

map_insert_result-new : map_insert_result nat_eq (flat (None ∷ to 6 60 ∷ None ∷ []) (0 ∷ 2 ∷ [])) 7 ≡ Ok tt
map_insert_result-new = refl

-- a key that is there is refused, full or not
map_insert_result-held : map_insert_result nat_eq (flat (to 1 2 ∷ None ∷ []) (1 ∷ [])) 1 ≡ Err KeyAlreadyExists
map_insert_result-held = refl

map_insert_result-held_full : map_insert_result nat_eq (flat (to 1 2 ∷ []) []) 1 ≡ Err KeyAlreadyExists
map_insert_result-held_full = refl

map_insert-held : map_insert nat_eq (flat (to 1 2 ∷ None ∷ []) (1 ∷ [])) 1 3 ≡ flat (to 1 2 ∷ None ∷ []) (1 ∷ [])
map_insert-held = refl

-- a new key is refused by a full map
map_insert_result-full : map_insert_result nat_eq (flat (to 1 2 ∷ []) []) 2 ≡ Err IsFull
map_insert_result-full = refl

-- a removed key's place is the next that is used
map_remove-held : map_remove nat_eq (flat (to 5 50 ∷ to 6 60 ∷ None ∷ []) (2 ∷ [])) 5 ≡ flat (None ∷ to 6 60 ∷ None ∷ []) (0 ∷ 2 ∷ [])
map_remove-held = refl

map_remove-absent : map_remove nat_eq (flat (to 5 50 ∷ None ∷ []) (1 ∷ [])) 6 ≡ flat (to 5 50 ∷ None ∷ []) (1 ∷ [])
map_remove-absent = refl

-- a written value stays with its key
map_set-held : map_set nat_eq (flat (None ∷ to 1 10 ∷ []) (0 ∷ [])) 1 11 ≡ flat (None ∷ to 1 11 ∷ []) (0 ∷ [])
map_set-held = refl

-- an equal key finds the place and the pair, and is not written there
map_entry-equal : map_entry same_parity (flat (to 4 40 ∷ to 7 70 ∷ []) []) 9 ≡ Some (1, record { key = 7; value = 70 })
map_entry-equal = refl

map_set-equal : map_set same_parity (flat (to 4 40 ∷ to 7 70 ∷ []) []) 9 71 ≡ flat (to 4 40 ∷ to 7 71 ∷ []) []
map_set-equal = refl

map_value-absent : map_value same_parity (flat (to 4 40 ∷ None ∷ []) (1 ∷ [])) 9 ≡ None
map_value-absent = refl

-- the keys are listed by place, not by when they came
map_keys-two : map_keys (flat (to 7 70 ∷ to 6 60 ∷ None ∷ []) (2 ∷ [])) ≡ 7 ∷ 6 ∷ []
map_keys-two = refl

-- two places with equal keys are no flat map
HasDistinctKeys-equal : HasDistinctKeys same_parity (flat (to 7 70 ∷ to 9 90 ∷ []) []) → ⊥
HasDistinctKeys-equal distinct = let same = distinct 0 1 (record { key = 7; value = 70 }) (record { key = 9; value = 90 }) refl refl refl in absurd (cc)
