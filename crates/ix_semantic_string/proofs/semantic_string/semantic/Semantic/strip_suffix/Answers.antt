use Rattle.std.proofs.Common.{ℕ, length, take, ◌+◌, ◌-◌, ◌≤◌, ◌≡◌, ap, rules}
use Rattle.ix_tables.specs.Bounded.{Bounded}
use Rattle.ix_semantic_string.proofs.Undoing.{IsText-suffix, room-suffix}
use Rattle.ix_semantic_string.proofs.semantic_string.semantic.Semantic.strip_suffix.Goals as goal

pub insert_bytes_unchecked-requires : goal.insert_bytes_unchecked-requires
insert_bytes_unchecked-requires g c =
    let text = c.self.inside.text in
    let bytes = c.args.bytes.now in
    let ends = c.strip_suffix.ensures.value.0 (search rules) in
    let rest : c.strip_suffix.new.self ≡ take (length text - length bytes) text = ap (λ (b : Bounded ℕ). b.items) c.if-not-strip_suffix.ensures.string in
    let room : length c.strip_suffix.new.self + length bytes ≤ g.row.CAPACITY = rw rest (room-suffix text bytes g.row.CAPACITY c.self.invariant.fits ends) in
    (search rules, (search rules, (room, IsText-suffix text bytes c.self.invariant.text ends)))
