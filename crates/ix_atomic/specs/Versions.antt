-- Versions of a value: even between two writes, and odd during one.
use Rattle.std.specs.Prelude.{ℕ, List, codes}

-- the greatest even version, at which no write can begin
abbrev pub last_version : ℕ
last_version = 18446744073709551614

abbrev pub versions_used_up_text : List ℕ
versions_used_up_text = codes "all versions are used up"
