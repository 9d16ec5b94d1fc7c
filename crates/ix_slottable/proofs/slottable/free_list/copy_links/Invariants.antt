use Rattle.std.proofs.Common.{◌≡◌, ℕ, ◌<◌, length}
use Rattle.ix_tables.specs.Places.{place_at, IsHeldAt}
use Rattle.ix_slottable.proofs.slottable.free_list.copy_links.Given as goal

-- the links before the key are copied
abbrev pub invariant-loop-key : goal.invariant-loop-key
invariant-loop-key g l = record {
  len : length (g.L.Table.places l.links) ≡ length (g.M.Table.places l.others);
  held : (key : ℕ) → key < length (g.L.Table.places l.links) → IsHeldAt (g.L.Table.places l.links) key;
  copied : (key : ℕ) → key < l.key → place_at (g.L.Table.places l.links) key ≡ place_at (g.M.Table.places l.others) key;
}
