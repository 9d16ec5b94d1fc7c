-- Worked examples: two seats of a cell that was opened with 0. With the first 7 is written, and then 9 with the second.
use Rattle.std.proofs.Common.{◌≡◌, ℕ, zero, suc, ◌<◌, [], ◌∷◌, length, get_or, refl, sym, ap, inl, arith}
use Rattle.std.specs.List.{Contains}
use Rattle.std.proofs.lemmas.List.Elements.{All-nil, All-cons}
use Rattle.std.proofs.lemmas.List.Kept.{AllPairs-cons}
use Rattle.atomic_table.specs.Seated.{TableId}
use Rattle.ix_atomic.specs.declared.sequenced.errors.TryWriteError.TheVariants.{Busy}
use Rattle.ix_atomic.specs.Writers.{Writer, Writes, Refuses, AreOwn, AreApart, places_insert, places_merge}
use Rattle.ix_atomic.proofs.OwnPlaces.{IsRising-nil}

places_insert-between : places_insert (1 ∷ 3 ∷ []) 2 ≡ 1 ∷ 2 ∷ 3 ∷ []
places_insert-between = refl

places_merge-mixed : places_merge (1 ∷ 4 ∷ []) (2 ∷ 3 ∷ []) ≡ 1 ∷ 2 ∷ 3 ∷ 4 ∷ []
places_merge-mixed = refl

places_merge-none : places_merge (2 ∷ []) [] ≡ 2 ∷ []
places_merge-none = refl

abbrev opened : TableId → Writer ℕ
opened cell = record { cell = cell; known = 0 ∷ []; seen = []; places = []; share = 0 ∷ []; touched = [] }

abbrev first : TableId → Writer ℕ
first cell = record { cell = cell; known = 0 ∷ 7 ∷ []; seen = 0 ∷ []; places = 1 ∷ []; share = 0 ∷ []; touched = 0 ∷ 0 ∷ 1 ∷ 0 ∷ [] }

abbrev second : TableId → Writer ℕ
second cell = record { cell = cell; known = 0 ∷ 7 ∷ 9 ∷ []; seen = 2 ∷ []; places = 2 ∷ []; share = 0 ∷ []; touched = 0 ∷ 0 ∷ 1 ∷ 0 ∷ [] }

Writes-first : (cell : TableId) → Writes (opened cell) (first cell) 7
Writes-first cell = record { earlier = 0 ∷ []; begins = ([], refl); known = refl; places = refl; seen = refl; later = All-nil _; not_used_up = omega arith }

-- the second seat comes to know of 7 by its own write
Writes-second : (cell : TableId) → Writes (opened cell) (second cell) 9
Writes-second cell = record { earlier = 0 ∷ 7 ∷ []; begins = (7 ∷ [], refl); known = refl; places = refl; seen = refl; later = All-nil _; not_used_up = omega arith }

AreOwn-first : (cell : TableId) → AreOwn (first cell)
AreOwn-first cell = (AllPairs-cons (λ earlier later. earlier < later) 1 [] (All-nil _) IsRising-nil, All-cons (λ place. (0 < place) × (place < 2)) 1 [] (omega arith, omega arith) (All-nil _))

only_place : (own place : ℕ) → Contains (own ∷ []) place → place ≡ own
only_place own place h = elim h.0 as (λ k. k < length (own ∷ []) → get_or (own ∷ []) k place ≡ place → place ≡ own) [
  | zero ↦ λ _ is. sym is
  | suc k ↦ λ inside _. absurd (omega (arith, inside))
] h.1 h.2

AreApart-both : (cell : TableId) → AreApart (first cell).places (second cell).places
AreApart-both cell place one two = let is_first = only_place 1 place one in let is_second = only_place 2 place two in omega (arith, is_first, is_second)

-- the second seat finds the first one's write in progress
Refuses-odd : (cell : TableId) → Refuses (opened cell) (record { cell = cell; known = 0 ∷ []; seen = 1 ∷ []; places = []; share = 0 ∷ []; touched = 0 ∷ [] }) (Busy 1 1)
Refuses-odd cell = inl (refl, refl, record { cell = refl; seen = refl; later = All-nil _; least = omega arith; known = ([], refl); up_to = refl }, refl)

-- a refused write adds no value to what the seat knows of a cell at version 0
no_lost_claim : (cell : TableId) → Writes (opened cell) (opened cell) 9 → ⊥
no_lost_claim cell write = let place = ap length write.places in omega (arith, place)
