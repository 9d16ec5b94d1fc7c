use Rattle.std.proofs.Common.{◌≡◌, ℕ, ◌<◌, ◌≤◌, length, None}
use Rattle.ix_tables.specs.Places.{place_at}
use Rattle.ix_slottable.specs.inner.FreeList.{MatchesLink}
use Rattle.ix_slottable.proofs.slottable.meta_slot_table.drop_all.Given as goal

-- nothing is left before the key, and from there on all is as it was
abbrev pub invariant-loop-key : goal.invariant-loop-key
invariant-loop-key g l = record {
  values : length (g.S.Table.places l.values) ≡ l.key-end;
  links : length (g.L.Table.places l.links) ≡ l.key-end;
  no_value : (key : ℕ) → key < l.key → place_at (g.S.Table.places l.values) key ≡ None;
  no_link : (key : ℕ) → key < l.key → place_at (g.L.Table.places l.links) key ≡ None;
  matches : (key : ℕ) → l.key ≤ key → key < l.key-end → MatchesLink (place_at (g.S.Table.places l.values) key) key (place_at (g.L.Table.places l.links) key);
}
