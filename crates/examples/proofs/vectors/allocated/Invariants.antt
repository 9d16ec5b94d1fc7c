use Rattle.std.proofs.Common.{◌≡◌, ◌*◌, length, map}
use Rattle.std.specs.List.{range_with_len}
use Rattle.examples.proofs.vectors.allocated.Given as goal

abbrev pub invariant-loop-i : goal.invariant-loop-i
invariant-loop-i g l = (l.squares.items ≡ map (λ k. k * k) (range_with_len 0 l.i)) × (length l.squares.items ≡ l.i) × (l.squares.capacity ≡ l.n)
