-- A container that finds values by keys, and a list of its keys in an order of its own. They are in step if each key is in both.
use Rattle.std.specs.Prelude.{◌≡◌, ◌<◌, ℕ, List, [], ◌∷◌, ◌++◌, length, not, count_by, filter, if◌then◌else◌, Bool, Option, Some, is_some}

module _ {K : Type 0} (eq : K → K → Bool) where
  -- each key that finds a value is in the list once, and no other key is; so many keys are found
  pub record IsInStep {V : Type 0} (find : K → Option V) (count : ℕ) (keys : List K) : Type 0 where
    pub once : (key : K) → count_by (eq key) keys ≡ (if is_some (find key) then 1 else 0)
    pub as_many : length keys ≡ count

  -- each key that finds such a value is in the list
  abbrev pub ListsEach : {V : Type 0} → (V → Type 0) → (K → Option V) → List K → Type 0
  ListsEach {V} IsSuch find keys = (key : K) (value : V) → find key ≡ Some value → IsSuch value → 0 < count_by (eq key) keys

  -- the keys except this one
  abbrev pub without : K → List K → List K
  without key keys = filter (λ other. not (eq other key)) keys

  -- the keys once this one was used: it is the last
  abbrev pub used_last : K → List K → List K
  used_last key keys = without key keys ++ key ∷ []
