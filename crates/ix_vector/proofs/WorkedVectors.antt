-- Worked examples: bounded lists, the steps of a vector and rows of places do what users expect.
use Rattle.std.proofs.Common.{ℕ, ◌≡◌, List, [], ◌∷◌, Option, Some, None, false, refl, arith}
use Rattle.std.specs.Prelude.{Ok, Err, slice_set}
use Rattle.ix_tables.specs.Bounded.{Bounded, IsFull, has_room, bounded_new, bounded_push}
use Rattle.ix_tables.specs.Places.{place_at, IsEmptyAt, IsHeldAt, IsVacant}
use Rattle.ix_vector.specs.VectorSteps.{HasRoomFor, LacksRoomFor, vec_push_result, vec_insert, vec_insert_result, vec_remove, vec_last, vec_pop, vec_truncate, vec_extend, vec_resize, vec_resize_result, vec_refill}
use Rattle.ix_vector.specs.declared.vector.modification_error.VectorModificationError.TheVariants.{OutOfBounds, InsertWouldExceedCapacity}

-- a vector with this capacity
abbrev vec_of : List ℕ → ℕ → Bounded ℕ
vec_of items capacity = record { items = items; capacity = capacity }

-- 1, 2 with room for one more
abbrev two_of_three : Bounded ℕ
two_of_three = vec_of (1 ∷ 2 ∷ []) 3

-- 1, 2 with room for two more
abbrev two_of_four : Bounded ℕ
two_of_four = vec_of (1 ∷ 2 ∷ []) 4

-- 1, 2 and no room
abbrev full : Bounded ℕ
full = vec_of (1 ∷ 2 ∷ []) 2

-- a new vector is empty
bounded_new-three : bounded_new 3 ≡ vec_of [] 3
bounded_new-three = refl

IsFull-full : IsFull full
IsFull-full = refl

has_room-full : has_room full ≡ false
has_room-full = refl

-- an item is appended; a full vector stays as it is
bounded_push-room : bounded_push two_of_three 9 ≡ vec_of (1 ∷ 2 ∷ 9 ∷ []) 3
bounded_push-room = refl

vec_push_result-room : vec_push_result two_of_three ≡ Ok tt
vec_push_result-room = refl

bounded_push-full : bounded_push full 9 ≡ full
bounded_push-full = refl

vec_push_result-full : vec_push_result full ≡ Err InsertWouldExceedCapacity
vec_push_result-full = refl

bounded_push-no_capacity : bounded_push (vec_of [] 0) 9 ≡ vec_of [] 0
bounded_push-no_capacity = refl

-- an item is inserted in front, between and behind
vec_insert-front : vec_insert two_of_three 0 9 ≡ vec_of (9 ∷ 1 ∷ 2 ∷ []) 3
vec_insert-front = refl

vec_insert-between : vec_insert two_of_three 1 9 ≡ vec_of (1 ∷ 9 ∷ 2 ∷ []) 3
vec_insert-between = refl

vec_insert-behind : vec_insert two_of_three 2 9 ≡ vec_of (1 ∷ 2 ∷ 9 ∷ []) 3
vec_insert-behind = refl

vec_insert_result-behind : vec_insert_result two_of_three 2 ≡ Ok tt
vec_insert_result-behind = refl

-- past the length it is refused, and a full vector is refused first
vec_insert-past : vec_insert two_of_three 8 5 ≡ two_of_three
vec_insert-past = refl

vec_insert_result-past : vec_insert_result two_of_three 8 ≡ Err OutOfBounds
vec_insert_result-past = refl

vec_insert-full : vec_insert full 1 9 ≡ full
vec_insert-full = refl

vec_insert_result-full : vec_insert_result full 1 ≡ Err InsertWouldExceedCapacity
vec_insert_result-full = refl

vec_insert_result-full_past : vec_insert_result full 8 ≡ Err InsertWouldExceedCapacity
vec_insert_result-full_past = refl

-- an item is removed; past the end the list stays
vec_remove-first : vec_remove two_of_three 0 ≡ vec_of (2 ∷ []) 3
vec_remove-first = refl

vec_remove-last : vec_remove two_of_three 1 ≡ vec_of (1 ∷ []) 3
vec_remove-last = refl

vec_remove-past : vec_remove two_of_three 2 ≡ two_of_three
vec_remove-past = refl

-- the last item, and the list without it
vec_last-two : vec_last two_of_three ≡ Some 2
vec_last-two = refl

vec_pop-two : vec_pop two_of_three ≡ vec_of (1 ∷ []) 3
vec_pop-two = refl

vec_last-empty : vec_last (vec_of [] 3) ≡ None
vec_last-empty = refl

vec_pop-empty : vec_pop (vec_of [] 3) ≡ vec_of [] 3
vec_pop-empty = refl

-- the first item is kept, or all of them
vec_truncate-one : vec_truncate two_of_four 1 ≡ vec_of (1 ∷ []) 4
vec_truncate-one = refl

vec_truncate-none : vec_truncate two_of_four 0 ≡ vec_of [] 4
vec_truncate-none = refl

vec_truncate-past : vec_truncate two_of_four 9 ≡ two_of_four
vec_truncate-past = refl

-- items are appended in their order
vec_extend-two : vec_extend two_of_four (8 ∷ 9 ∷ []) ≡ vec_of (1 ∷ 2 ∷ 8 ∷ 9 ∷ []) 4
vec_extend-two = refl

vec_extend-none : vec_extend two_of_four [] ≡ two_of_four
vec_extend-none = refl

-- two more items fit, and three do not
HasRoomFor-two : HasRoomFor 2 two_of_four
HasRoomFor-two = omega arith

LacksRoomFor-three : LacksRoomFor 3 two_of_four
LacksRoomFor-three = omega arith

-- it grows by copies, shrinks from the end, and does not pass its capacity
vec_resize-up : vec_resize two_of_four 4 9 ≡ vec_of (1 ∷ 2 ∷ 9 ∷ 9 ∷ []) 4
vec_resize-up = refl

vec_resize-down : vec_resize two_of_four 1 9 ≡ vec_of (1 ∷ []) 4
vec_resize-down = refl

vec_resize-same : vec_resize two_of_four 2 9 ≡ two_of_four
vec_resize-same = refl

vec_resize_result-up : vec_resize_result two_of_four 4 ≡ Ok tt
vec_resize_result-up = refl

vec_resize_result-past : vec_resize_result two_of_four 5 ≡ Err InsertWouldExceedCapacity
vec_resize_result-past = refl

-- written items replace those that were there, one by one, and the list is as long as it was
vec_refill-one : vec_refill two_of_four (8 ∷ []) ≡ vec_of (8 ∷ 2 ∷ []) 4
vec_refill-one = refl

vec_refill-three : vec_refill two_of_four (7 ∷ 8 ∷ 9 ∷ []) ≡ vec_of (7 ∷ 8 ∷ []) 4
vec_refill-three = refl

-- a row of three places that holds 5 in the middle
abbrev row : List (Option ℕ)
row = None ∷ Some 5 ∷ None ∷ []

place_at-held : place_at row 1 ≡ Some 5
place_at-held = refl

place_at-empty : place_at row 2 ≡ None
place_at-empty = refl

place_at-past : place_at row 3 ≡ None
place_at-past = refl

IsHeldAt-held : IsHeldAt row 1
IsHeldAt-held = refl

-- a place past the end is neither empty nor held
IsEmptyAt-past : IsEmptyAt row 3 → ⊥
IsEmptyAt-past empty = let below = empty.0 in omega arith

IsHeldAt-past : IsHeldAt row 3 → ⊥
IsHeldAt-past held = cc

-- an item is put into the first place, and the one in the middle is taken out
slice_set-put : slice_set row 0 (Some 4) ≡ Some 4 ∷ Some 5 ∷ None ∷ []
slice_set-put = refl

IsVacant-taken : IsVacant (slice_set row 1 None)
IsVacant-taken = refl

IsVacant-held : IsVacant row → ⊥
IsVacant-held vacant = cc
