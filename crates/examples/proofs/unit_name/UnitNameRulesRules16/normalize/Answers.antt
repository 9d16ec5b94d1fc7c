use Rattle.std.proofs.Common.{rules, ◌≡◌}
use Rattle.std.specs.Str.{str_to_ascii_lowercase}
use Rattle.examples.specs.UnitNamesLaws.{lower_case-accepted}
use Rattle.examples.proofs.unit_name.UnitNameRulesRules16.normalize.Goals as goal

pub from_bytes_unchecked-requires : goal.from_bytes_unchecked-requires
from_bytes_unchecked-requires c =
    let normal = lower_case-accepted c.args.name.now c.requires in
    let same : c.make_ascii_lowercase.new.self ≡ str_to_ascii_lowercase c.args.name.now = search rules in
    (search rules, (rw same normal.fits, rw same normal.text))
