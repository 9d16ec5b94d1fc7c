use Rattle.std.proofs.Common.{rules}
use Rattle.ix_commands.proofs.Copies.{vec_resize-copies}
use Rattle.ix_commands.proofs.vector.resize_by_copies.Goals as goal

pub returns-clause-vector : goal.returns-clause-vector
returns-clause-vector g c =
    let old = g.V.Vector.bounded c.args.vector.now in
    let new = g.V.Vector.bounded c.resize_with.new.self in
    let ensures = c.resize_with.ensures in
    vec_resize-copies old new c.args.n c.args.item c.resize_with.result ensures.vector ensures.len ensures.capacity (λ p r q is call. search rules)
