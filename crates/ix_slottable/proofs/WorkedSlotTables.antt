-- Worked examples: the steps of a slot table do what users expect.
use Rattle.std.proofs.Common.{ℕ, ◌≡◌, List, [], ◌∷◌, Option, Some, None, refl}
use Rattle.ix_slottable.specs.SlotTableState.{SlotTableState, slot_table_new, held_count, entries}
use Rattle.ix_slottable.specs.SlotTableSteps.{slot_table_insert, slot_table_insert_at, slot_table_remove}

-- a slot table with these values and free keys
abbrev slots : List (Option ℕ) → List ℕ → SlotTableState ℕ
slots values free = record { values = values; free = free }

-- capacity 3: the first value gets the key 0
slot_table_insert-new : slot_table_insert (slot_table_new 3) 7 ≡ slots (Some 7 ∷ None ∷ None ∷ []) (1 ∷ 2 ∷ [])
slot_table_insert-new = refl

-- a removed key is the first free one
slot_table_remove-held : slot_table_remove (slots (Some 7 ∷ Some 8 ∷ None ∷ []) (2 ∷ [])) 0 ≡ slots (None ∷ Some 8 ∷ None ∷ []) (0 ∷ 2 ∷ [])
slot_table_remove-held = refl

slot_table_insert-removed : slot_table_insert (slots (None ∷ Some 8 ∷ None ∷ []) (0 ∷ 2 ∷ [])) 9 ≡ slots (Some 9 ∷ Some 8 ∷ None ∷ []) (2 ∷ [])
slot_table_insert-removed = refl

-- a key of one's own choice is no longer free
slot_table_insert_at-free : slot_table_insert_at (slot_table_new 3) 1 5 ≡ slots (None ∷ Some 5 ∷ None ∷ []) (0 ∷ 2 ∷ [])
slot_table_insert_at-free = refl

-- a held key gets another value
slot_table_insert_at-held : slot_table_insert_at (slots (Some 7 ∷ None ∷ []) (1 ∷ [])) 0 5 ≡ slots (Some 5 ∷ None ∷ []) (1 ∷ [])
slot_table_insert_at-held = refl

-- nothing changes: a full map, a key out of range, a free key
slot_table_insert-full : slot_table_insert (slots (Some 7 ∷ Some 8 ∷ []) []) 9 ≡ slots (Some 7 ∷ Some 8 ∷ []) []
slot_table_insert-full = refl

slot_table_insert_at-out_of_range : slot_table_insert_at {T = ℕ} (slot_table_new 2) 2 9 ≡ slot_table_new 2
slot_table_insert_at-out_of_range = refl

slot_table_remove-free : slot_table_remove (slots (Some 7 ∷ None ∷ []) (1 ∷ [])) 1 ≡ slots (Some 7 ∷ None ∷ []) (1 ∷ [])
slot_table_remove-free = refl

-- capacity 0: there is no key
slot_table_insert-none : slot_table_insert {T = ℕ} (slot_table_new 0) 7 ≡ slot_table_new 0
slot_table_insert-none = refl

-- the held keys in rising order
entries-two : entries (slots (None ∷ Some 5 ∷ None ∷ Some 7 ∷ []) (2 ∷ 0 ∷ [])) ≡ (1, 5) ∷ (3, 7) ∷ []
entries-two = refl

held_count-two : held_count (slots (None ∷ Some 5 ∷ None ∷ Some 7 ∷ []) (2 ∷ 0 ∷ [])) ≡ 2
held_count-two = refl
