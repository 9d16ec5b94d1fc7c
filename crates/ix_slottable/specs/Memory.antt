-- The memory that maps allocate: the memory of their tables, from the sizes of the values in them.
use Rattle.std.specs.Prelude.{ℕ}
pub use Rattle.ix_tables.specs.Memory.{no_memory, memory_plus, table_memory, items_memory}
use Rattle.ix_tables.specs.declared.cells.MemorySize.{MemorySize}

-- a table of values and a link for each
abbrev pub slot_table_memory : ℕ → ℕ → ℕ → MemorySize
slot_table_memory value link n = memory_plus (table_memory value n) (items_memory link n)

-- and a word for each
abbrev pub slot_map_memory : ℕ → ℕ → ℕ → ℕ → MemorySize
slot_map_memory content link word n = memory_plus (slot_table_memory content link n) (items_memory word n)

-- a hash map has links of chains in place of the words
abbrev pub hash_map_memory : ℕ → ℕ → ℕ → ℕ → MemorySize
hash_map_memory pair link chain_link n = slot_map_memory pair link chain_link n
