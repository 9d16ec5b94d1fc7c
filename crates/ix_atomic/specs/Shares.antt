-- Shares of the right to write to a cell. The first writer's seat has all of it; a further one takes half of what its maker has, and a merge adds up.
use Rattle.std.specs.Prelude.{◌≡◌, ℕ, suc, ◌+◌, ◌-◌, ◌^◌, ◌≤◌, List, [], ◌∷◌}

-- A share is a list of parts. Each is a number: how often it was halved. Here each is halved once more.
abbrev pub halved : List ℕ → List ℕ
halved [] = []
halved (part ∷ share) = suc part ∷ halved share

-- no part was halved more often than this
abbrev pub AreWithin : ℕ → List ℕ → Type 0
AreWithin depth [] = Unit {0}
AreWithin depth (part ∷ share) = (part ≤ depth) × AreWithin depth share

-- the share, in units that are the whole right halved so often
abbrev pub units : ℕ → List ℕ → ℕ
units depth [] = 0
units depth (part ∷ share) = 2 ^ (depth - part) + units depth share

-- the parts add up to the whole right: no other seat can write
abbrev pub IsWhole : List ℕ → Type 0
IsWhole share = (depth : ℕ) × AreWithin depth share × (units depth share ≡ 2 ^ depth)
