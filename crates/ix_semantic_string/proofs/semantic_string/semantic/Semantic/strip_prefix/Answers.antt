use Rattle.std.proofs.Common.{ℕ, length, ◌+◌, ◌≤◌, ◌≡◌, ap, rules}
use Rattle.std.specs.List.{remove_range}
use Rattle.ix_tables.specs.Bounded.{Bounded}
use Rattle.ix_semantic_string.proofs.Undoing.{IsText-prefix, room-prefix}
use Rattle.ix_semantic_string.proofs.semantic_string.semantic.Semantic.strip_prefix.Goals as goal

pub insert_bytes_unchecked-requires : goal.insert_bytes_unchecked-requires
insert_bytes_unchecked-requires g c =
    let text = c.self.inside.text in
    let bytes = c.args.bytes.now in
    let found = c.strip_prefix.ensures.value.0 (search rules) in
    let rest : c.strip_prefix.new.self ≡ remove_range text 0 (0 + length bytes) = ap (λ (b : Bounded ℕ). b.items) c.if-not-strip_prefix.ensures.string in
    let room : length c.strip_prefix.new.self + length bytes ≤ g.row.CAPACITY = rw rest (room-prefix text bytes g.row.CAPACITY c.self.invariant.fits found) in
    (search rules, (search rules, (room, IsText-prefix text bytes c.self.invariant.text found)))
