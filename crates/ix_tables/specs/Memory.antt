-- The amount of memory that is allocated: the bytes, and the number of allocations.
use Rattle.std.specs.Prelude.{ℕ, ◌+◌, ◌-◌, ◌*◌, ◌^◌, min, nat_eq, if◌then◌else◌}
use Rattle.ix_tables.specs.declared.cells.memory_size.MemorySize.{MemorySize}

-- n, or the greatest `usize` if n is greater
abbrev pub saturated : ℕ → ℕ
saturated n = min n (2 ^ 64 - 1)

-- nothing
abbrev pub no_memory : MemorySize
no_memory = record { bytes = 0; blocks = 0 }

-- n items of this size in one allocation, which may have no bytes; no allocation if n is 0
abbrev pub items_memory : ℕ → ℕ → MemorySize
items_memory size n = record { bytes = saturated (n * size); blocks = if nat_eq n 0 then 0 else 1 }

-- both together
abbrev pub memory_plus : MemorySize → MemorySize → MemorySize
memory_plus a b = record { bytes = saturated (a.bytes + b.bytes); blocks = saturated (a.blocks + b.blocks) }

-- n places, if they have bytes, and a mark of one byte for each
abbrev pub table_memory : ℕ → ℕ → MemorySize
table_memory size n =
    if nat_eq (items_memory size n).bytes 0 then items_memory 1 n else memory_plus (items_memory size n) (items_memory 1 n)
