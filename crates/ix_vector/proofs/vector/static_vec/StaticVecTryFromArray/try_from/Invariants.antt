use Rattle.std.proofs.Common.{◌≡◌, take, drop}
use Rattle.ix_vector.proofs.vector.static_vec.StaticVecTryFromArray.try_from.Given as goal

-- the items in front are in the vector, and the others are where they were
abbrev pub invariant-loop-i : goal.invariant-loop-i
invariant-loop-i g l = (l.vector ≡ take l.i l.fn.items) × (drop l.i l.items ≡ drop l.i l.fn.items)
