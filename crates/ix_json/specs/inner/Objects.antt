-- The condition on the keys and values of a map under which the map is read back. No clause of a public method cites it.
use Rattle.std.specs.Prelude.{◌≡◌, ℕ, List, Result, Ok}
use Rattle.serde_json.specs.Data.{Data}
use Rattle.ix_json.specs.JsonTree.{bytes_read}
use Rattle.ix_json.specs.declared.json.json_fault.JsonFault.{JsonFault}

module _ {V : Type 0} where
  -- the key is read as itself, and the value is read back from its tree
  abbrev pub IsItemReadBack : ℕ → (V → Data) → (Data → Result V JsonFault) → List ℕ × V → Type 0
  IsItemReadBack key_capacity tree_of read entry = (bytes_read key_capacity entry.0 ≡ Ok entry.0) × (read (tree_of entry.1) ≡ Ok entry.1)
