-- Clones of the pairs of a flat map.
use Rattle.std.specs.Prelude.{◌≡◌, Bool, true}
use Rattle.ix_flatmap.specs.declared.map.pair.Pair.{Pair}

module _ {K V : Type 0} (eq : K → K → Bool) where
  -- clones of the key and of the value, the former equal to the key
  pub record PairIsClone (is_key : K → K → Type 0) (is_value : V → V → Type 0) (pair copy : Pair K V) : Type 0 where
    pub key : is_key pair.key copy.key
    pub equal : eq copy.key pair.key ≡ true
    pub value : is_value pair.value copy.value

  -- cloning neither can fail, and a clone of the key is equal to it
  pub record PairIsInfallible (is_key : K → K → Type 0) (key_is_infallible : K → Type 0) (value_is_infallible : V → Type 0) (pair : Pair K V) : Type 0 where
    pub key : key_is_infallible pair.key
    pub equal : (copy : K) → is_key pair.key copy → eq copy pair.key ≡ true
    pub value : value_is_infallible pair.value
