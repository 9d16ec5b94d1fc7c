-- The results of the tests of steps, one step after the other.
use Rattle.std.specs.Prelude.{ℕ, ◌+◌, Bool, true, false, not, ◌&&◌, ◌||◌, List, [], ◌∷◌, if◌then◌else◌, nat_eq, nat_lt, Option, Some, None, is_none, unwrap_or}
use Rattle.ix_atomic.specs.declared.byte_atomic.steps.plain.Act.{Act}
use Rattle.ix_atomic.specs.declared.byte_atomic.steps.plain.Act.TheVariants as act
use Rattle.ix_atomic.specs.declared.byte_atomic.steps.versioned.VersionedStep.{VersionedStep}
use Rattle.ix_atomic.specs.declared.byte_atomic.steps.versioned.VersionedStep.TheVariants.{Begin, Store, End, LoadVersion}
use Rattle.ix_atomic.specs.ByteActs.{stored_at}
use Rattle.ix_atomic.specs.VersionedSteps.{is_begin_or_end}
use Rattle.ix_atomic.specs.Versions.{last_version}

-- each step passes the test in the state that the steps before it lead to
abbrev pub steps_pass : {A S : Type 0} → (A → S → Bool) → (A → S → A) → A → List S → Bool
steps_pass test next state [] = true
steps_pass test next state (step ∷ steps) = test state step && steps_pass test next (next state step) steps

abbrev pub act_place : Act → ℕ
act_place (act.Store place byte) = place
act_place (act.Load place byte) = place

-- the acts are at places below the length
abbrev pub is_within : ℕ → Act → Bool
is_within len act = nat_lt (act_place act) len

abbrev pub all_within : ℕ → List Act → Bool
all_within len acts = steps_pass is_within (λ len act. len) len acts

-- the loads at the place have the byte that it has by then
abbrev pub load_agrees : ℕ → ℕ → Act → Bool
load_agrees place latest (act.Store at byte) = true
load_agrees place latest (act.Load at byte) = not (nat_eq at place) || nat_eq byte latest

abbrev pub next_byte : ℕ → ℕ → Act → ℕ
next_byte place latest act = unwrap_or (stored_at place act) latest

abbrev pub loads_agree : ℕ → ℕ → List Act → Bool
loads_agree place first acts = steps_pass (load_agrees place) (next_byte place) first acts

-- a write is in progress that has stored so many bytes
abbrev pub has_stored : ℕ → Option ℕ → Bool
has_stored count None = false
has_stored count (Some stored) = nat_eq stored count

-- the writer's steps are in turn; the state is the number of bytes that the write in progress has stored
abbrev pub is_in_turn : ℕ → Option ℕ → VersionedStep → Bool
is_in_turn len stored Begin = is_none stored
is_in_turn len stored (Store place byte) = has_stored place stored && nat_lt place len
is_in_turn len stored End = has_stored len stored
is_in_turn len stored step = true

abbrev pub next_stored : Option ℕ → VersionedStep → Option ℕ
next_stored stored Begin = Some 0
next_stored stored (Store place byte) = Some (place + 1)
next_stored stored End = None
next_stored stored step = stored

abbrev pub are_in_turn : ℕ → Option ℕ → List VersionedStep → Bool
are_in_turn len stored steps = steps_pass (is_in_turn len) next_stored stored steps

-- the loaded versions are right, and no write begins at the last version
abbrev pub version_agrees : ℕ → VersionedStep → Bool
version_agrees version Begin = not (nat_eq version last_version)
version_agrees version (LoadVersion reader loaded) = nat_eq loaded version
version_agrees version step = true

abbrev pub next_version : ℕ → VersionedStep → ℕ
next_version version step = if is_begin_or_end step then version + 1 else version

abbrev pub versions_agree : ℕ → List VersionedStep → Bool
versions_agree version steps = steps_pass version_agrees next_version version steps
