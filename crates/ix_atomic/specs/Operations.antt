-- Reads and writes in a list of plain steps, and how long they last.
use Rattle.std.specs.Prelude.{◌≡◌, ℕ, ◌<◌, ◌≤◌, ◌⊎◌, ◌&&◌, List, length, Option, Some, None, is_some, if◌then◌else◌, nat_eq, slice_get, count_by}
use Rattle.ix_atomic.specs.declared.byte_atomic.steps.plain.Act.{Act}
use Rattle.ix_atomic.specs.declared.byte_atomic.steps.plain.Act.TheVariants.{Store, Load}
use Rattle.ix_atomic.specs.declared.byte_atomic.steps.plain.Step.{Step}
use Rattle.ix_atomic.specs.ByteActs.{stored_at}

-- the byte that an act loads from a place, if it does
abbrev pub loaded_at : ℕ → Act → Option ℕ
loaded_at place (Store at byte) = None
loaded_at place (Load at byte) = if nat_eq at place then Some byte else None

-- the operation's step at this index of the list does this
abbrev pub TakesAt : List Step → ℕ → ℕ → Act → Type 0
TakesAt steps op index act = slice_get steps index ≡ Some (record { op = op; act = act })

-- some step of the operation does this
abbrev pub Takes : List Step → ℕ → Act → Type 0
Takes steps op act = (index : ℕ) × TakesAt steps op index act

-- the step at this index is the operation's
abbrev pub IsStepOf : List Step → ℕ → ℕ → Type 0
IsStepOf steps op index = (act : Act) × TakesAt steps op index act

-- how often the operation stores a byte at a place, or loads one from it
abbrev pub times_stored : List Step → ℕ → ℕ → ℕ
times_stored steps op place = count_by (λ step. nat_eq step.op op && is_some (stored_at place step.act)) steps

abbrev pub times_loaded : List Step → ℕ → ℕ → ℕ
times_loaded steps op place = count_by (λ step. nat_eq step.op op && is_some (loaded_at place step.act)) steps

-- a write, finished or not: it stores each place at most once, and loads nothing
pub record IsWrite (first : List ℕ) (steps : List Step) (op : ℕ) : Type 0 where
  pub has_step : (index : ℕ) × IsStepOf steps op index
  pub stores : (place : ℕ) → place < length first → times_stored steps op place ≤ 1
  pub loads : (place : ℕ) → times_loaded steps op place ≡ 0

-- a read, finished or not: it loads each place at most once, and stores nothing
pub record IsRead (first : List ℕ) (steps : List Step) (op : ℕ) : Type 0 where
  pub has_step : (index : ℕ) × IsStepOf steps op index
  pub loads : (place : ℕ) → place < length first → times_loaded steps op place ≤ 1
  pub stores : (place : ℕ) → times_stored steps op place ≡ 0

-- a read that has loaded each place
pub record IsFinishedRead (first : List ℕ) (steps : List Step) (op : ℕ) : Type 0 where
  pub read : IsRead first steps op
  pub whole : (place : ℕ) → place < length first → times_loaded steps op place ≡ 1

-- a write that still misses a place
pub record IsUnfinishedWrite (first : List ℕ) (steps : List Step) (op : ℕ) : Type 0 where
  pub write : IsWrite first steps op
  pub misses : (place : ℕ) × (place < length first) × (times_stored steps op place ≡ 0)

-- each operation is a read or a write, finished or not
abbrev pub AreReadsAndWrites : List ℕ → List Step → Type 0
AreReadsAndWrites first steps = (op index : ℕ) → IsStepOf steps op index → IsRead first steps op ⊎ IsWrite first steps op

-- The operation lasts at this index: it has begun there, and goes on or takes its last step. An unfinished write goes on
-- to the end of the list.
pub record Lasts (first : List ℕ) (steps : List Step) (op index : ℕ) : Type 0 where
  pub inside : index < length steps
  pub begun : (from : ℕ) × (from ≤ index) × IsStepOf steps op from
  pub goes_on : ((to : ℕ) × (index ≤ to) × IsStepOf steps op to) ⊎ IsUnfinishedWrite first steps op

-- both operations last at some index
abbrev pub Overlap : List ℕ → List Step → ℕ → ℕ → Type 0
Overlap first steps a b = (index : ℕ) × Lasts first steps a index × Lasts first steps b index

-- no write overlaps the operation, except the operation itself if it is a write
abbrev pub OverlapsNoWrite : List ℕ → List Step → ℕ → Type 0
OverlapsNoWrite first steps op = (write : ℕ) → IsWrite first steps write → Overlap first steps write op → write ≡ op

-- the first operation is over when the second begins
abbrev pub IsBefore : List ℕ → List Step → ℕ → ℕ → Type 0
IsBefore first steps a b = (i j : ℕ) → Lasts first steps a i → Lasts first steps b j → i < j

-- no write is before the operation
abbrev pub HasNoWriteBefore : List ℕ → List Step → ℕ → Type 0
HasNoWriteBefore first steps op = (write : ℕ) → IsWrite first steps write → IsBefore first steps write op → ⊥

-- a write before the operation, such that no other write lies between the two
pub record IsLastWriteBefore (first : List ℕ) (steps : List Step) (write op : ℕ) : Type 0 where
  pub is_write : IsWrite first steps write
  pub before : IsBefore first steps write op
  pub last : (other : ℕ) → IsWrite first steps other → IsBefore first steps write other → IsBefore first steps other op → ⊥
