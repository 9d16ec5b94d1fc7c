-- A list overwritten by one of its own length is that one.
use Rattle.std.specs.Prelude.{List, ◌≡◌, length}
use Rattle.std.specs.List.{refill}
use Rattle.std.proofs.Common.{arith}
use Rattle.std.proofs.lemmas.Grind.{common_steps}

module _ {T : Type 0} where
  pub refill-same_length : (xs ys : List T) → length ys ≡ length xs → refill (length xs) xs ys ≡ ys
  refill-same_length xs ys same = grind (arith, common_steps)
