-- Worked examples: a reader that knows the opening value 0 alone, of a cell to which 7 is written.
use Rattle.std.proofs.Common.{◌≡◌, ℕ, ◌≤◌, [], ◌∷◌, Some, refl, arith}
use Rattle.std.proofs.lemmas.List.Elements.{All-nil, All-cons}
use Rattle.atomic_table.specs.Seated.{TableId}
use Rattle.ix_atomic.specs.History.{Reader, LoadsTwice, version_of, history_value, last_value, all_words}

version_of-written : version_of {T = ℕ} (0 ∷ 7 ∷ []) ≡ 2
version_of-written = refl

history_value-written : history_value {T = ℕ} (0 ∷ 7 ∷ []) 2 ≡ Some 7
history_value-written = refl

last_value-written : last_value {T = ℕ} (0 ∷ 7 ∷ []) ≡ Some 7
last_value-written = refl

-- nine bytes take two words
all_words-nine : all_words 9 ≡ 0 ∷ 1 ∷ 2 ∷ 0 ∷ []
all_words-nine = refl

abbrev reader : TableId → Reader ℕ
reader cell = record { cell = cell; known = 0 ∷ []; seen = []; touched = [] }

-- it begins to read during the write, and ends after it
abbrev interfered : TableId → Reader ℕ
interfered cell = record { cell = cell; known = 0 ∷ 7 ∷ []; seen = 1 ∷ 2 ∷ []; touched = 0 ∷ 1 ∷ 0 ∷ [] }

LoadsTwice-interfered : (cell : TableId) → LoadsTwice (reader cell) (interfered cell) 1 2
LoadsTwice-interfered cell = record {
  between = record { cell = cell; known = 0 ∷ []; seen = 1 ∷ []; touched = 0 ∷ 1 ∷ [] };
  first_load = record { cell = refl; seen = refl; later = All-nil _; least = omega arith; known = ([], refl); up_to = refl };
  last_load = record { cell = refl; seen = refl; later = All-cons (λ earlier. earlier ≤ 2) 1 [] (omega arith) (All-nil _); least = omega arith; known = (7 ∷ [], refl); up_to = refl };
  order = omega arith;
}

-- no load gives a version before the one that the reader knows
no_old_version : (cell : TableId) (after : Reader ℕ) → LoadsTwice (interfered cell) after 0 2 → ⊥
no_old_version cell after loads = let least = loads.first_load.least in omega arith
