use Rattle.std.proofs.Common.{◌≡◌, ℕ, ◌+◌, ◌-◌, ◌<◌, ◌≤◌, length, Some, None}
use Rattle.std.specs.Prelude.{nat_eq, if◌then◌else◌}
use Rattle.ix_tables.specs.Places.{place_at}
use Rattle.ix_slottable.specs.inner.FreeList.{no_key, free_link}
use Rattle.ix_slottable.proofs.slottable.free_list.link_all.Given as goal

-- the keys so far are linked, and the others are not yet
abbrev pub invariant-loop-key : goal.invariant-loop-key
invariant-loop-key g l = record {
  len : length (g.L.Table.places l.links) ≡ l.len;
  linked : (key : ℕ) → key < l.key → place_at (g.L.Table.places l.links) key ≡ Some (free_link (if nat_eq key 0 then no_key else key - 1) (if nat_eq (key + 1) l.len then no_key else key + 1));
  rest : (key : ℕ) → l.key ≤ key → place_at (g.L.Table.places l.links) key ≡ None;
}
