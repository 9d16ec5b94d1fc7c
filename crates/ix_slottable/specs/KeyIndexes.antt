-- A container that finds values by keys, and an index that finds the key of a value by a name that the value has.
use Rattle.std.specs.Prelude.{◌≡◌, Option, Some, option_map}

module _ {N K V : Type 0} (name : V → N) where
  -- each value's key is found by its name, and a key that is found has a value of that name
  pub record IsIndexOf (find : N → Option K) (get : K → Option V) : Type 0 where
    pub named : (key : K) (value : V) → get key ≡ Some value → find (name value) ≡ Some key
    pub found : (sought : N) (key : K) → find sought ≡ Some key → option_map name (get key) ≡ Some sought
