-- Worked examples: how much memory items and tables take.
use Rattle.std.proofs.Common.{◌≡◌, ◌-◌, ◌^◌, refl}
use Rattle.ix_tables.specs.Memory.{no_memory, items_memory, memory_plus, table_memory}

-- three numbers of eight bytes
items_memory-three : items_memory 8 3 ≡ record { bytes = 24; blocks = 1 }
items_memory-three = refl

items_memory-zero : items_memory 8 0 ≡ no_memory
items_memory-zero = refl

-- items of size zero take a block of no bytes
items_memory-no_bytes : items_memory 0 3 ≡ record { bytes = 0; blocks = 1 }
items_memory-no_bytes = refl

-- more than there are bytes
items_memory-cut : (items_memory 8 (2 ^ 61)).bytes ≡ 2 ^ 64 - 1
items_memory-cut = refl

memory_plus-two : memory_plus (items_memory 8 3) (items_memory 1 5) ≡ record { bytes = 29; blocks = 2 }
memory_plus-two = refl

-- a place takes its item and a mark
table_memory-three : table_memory 8 3 ≡ record { bytes = 27; blocks = 2 }
table_memory-three = refl

table_memory-no_bytes : table_memory 0 3 ≡ record { bytes = 3; blocks = 1 }
table_memory-no_bytes = refl

table_memory-zero : table_memory 8 0 ≡ no_memory
table_memory-zero = refl
