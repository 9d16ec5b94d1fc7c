-- Lists of versioned steps that are legal, and reads between two loads of the version.
use Rattle.std.specs.Prelude.{◌≡◌, ◌≢◌, ℕ, List, [], ◌∷◌, ◌++◌, length, map, Option, Some, None, Bool, true, false, nat_eq, filter, filter_map, flat_map, count_by, All}
use Rattle.std.specs.List.{enumerate_from}
use Rattle.ix_atomic.specs.declared.byte_atomic.steps.plain.Act.{Act}
use Rattle.ix_atomic.specs.declared.byte_atomic.steps.plain.Act.TheVariants as act
use Rattle.ix_atomic.specs.declared.byte_atomic.steps.versioned.VersionedStep.{VersionedStep}
use Rattle.ix_atomic.specs.declared.byte_atomic.steps.versioned.VersionedStep.TheVariants.{Begin, Store, End, LoadVersion, LoadByte}
use Rattle.ix_atomic.specs.EachStep.{EachAfter}
use Rattle.ix_atomic.specs.ByteActs.{AreLegal}
use Rattle.ix_atomic.specs.Versions.{last_version}

-- the store or load of a byte that a step is
abbrev pub byte_act : VersionedStep → Option Act
byte_act (Store place byte) = Some (act.Store place byte)
byte_act (LoadByte reader place byte) = Some (act.Load place byte)
byte_act step = None

-- the step is the writer's
abbrev pub is_of_writer : VersionedStep → Bool
is_of_writer (LoadVersion reader version) = false
is_of_writer (LoadByte reader place byte) = false
is_of_writer step = true

-- the step is this reader's
abbrev pub is_of_reader : ℕ → VersionedStep → Bool
is_of_reader reader (LoadVersion by version) = nat_eq by reader
is_of_reader reader (LoadByte by place byte) = nat_eq by reader
is_of_reader reader step = false

-- the step begins or ends a write
abbrev pub is_begin_or_end : VersionedStep → Bool
is_begin_or_end Begin = true
is_begin_or_end End = true
is_begin_or_end step = false

-- a step for each of these bytes, in rising order of their places; the first byte's place is the number
abbrev pub byte_steps : (ℕ → ℕ → VersionedStep) → ℕ → List ℕ → List VersionedStep
byte_steps step place bytes = map (λ entry. step entry.0 entry.1) (enumerate_from place bytes)

-- the write of a value
abbrev pub write_of : List ℕ → List VersionedStep
write_of value = Begin ∷ (byte_steps Store 0 value ++ End ∷ [])

-- The writer's steps are a beginning of the writes of these values, one after another. So the last write that is begun
-- may be cut short anywhere.
pub record AreWrites (size : ℕ) (steps : List VersionedStep) (values : List (List ℕ)) : Type 0 where
  pub sizes : All (λ value. length value ≡ size) values
  pub missing : List VersionedStep
  pub in_turn : filter is_of_writer steps ++ missing ≡ flat_map write_of values

-- The version after these steps, which each begin and each end of a write raises by one. So it is twice the number of
-- writes that have ended, and one more while a write is in progress.
abbrev pub version_after : List VersionedStep → ℕ
version_after steps = count_by is_begin_or_end steps

-- the version is right for a step after these steps: no write begins at the last one, and a load has that of its moment
abbrev pub HasVersion : List VersionedStep → VersionedStep → Type 0
HasVersion before Begin = version_after before ≢ last_version
HasVersion before (LoadVersion reader version) = version ≡ version_after before
HasVersion before step = Unit {0}

-- steps that are legal on a value that has these first bytes
pub record IsLegalVersioned (first : List ℕ) (steps : List VersionedStep) : Type 0 where
  pub writes : (values : List (List ℕ)) × AreWrites (length first) steps values
  pub versions : EachAfter HasVersion steps
  pub bytes : AreLegal first (filter_map byte_act steps)

-- Somewhere in the list a reader loads the version, and later the version again. In between it loads these bytes, each
-- from its place in rising order, and takes no other step; others may take any.
pub record IsVersionedRead (size : ℕ) (steps : List VersionedStep) (reader opening : ℕ) (bytes : List ℕ) (closing : ℕ) : Type 0 where
  pub before : List VersionedStep
  pub between : List VersionedStep
  pub after : List VersionedStep
  pub loads_versions : steps ≡ before ++ LoadVersion reader opening ∷ between ++ LoadVersion reader closing ∷ after
  pub loads_bytes : filter (is_of_reader reader) between ≡ byte_steps (LoadByte reader) 0 bytes
  pub whole : length bytes ≡ size
