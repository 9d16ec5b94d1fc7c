use Rattle.std.proofs.Common.{◌≡◌, ◌≤◌, take, length, arith}
use Rattle.std.proofs.lemmas.Grind.{common_steps}
use Rattle.std.proofs.lemmas.List.{take_min}
use Rattle.ix_string.proofs.Texts.{IsOk-StringFromBytes}
use Rattle.ix_string.proofs.string.static_string.StaticString.from_bytes_truncated.Goals as goal

pub returns-clause-value : goal.returns-clause-value
returns-clause-value g c =
    let bytes = c.args.bytes.now in
    let n = c.min-n.result in
    let cut : take n bytes ≡ take g.row.CAPACITY bytes = grind (arith, common_steps, take_min) in
    let short : length (take n bytes) ≤ g.row.CAPACITY = grind (arith, common_steps) in
    rw cut at (IsOk-StringFromBytes g.row.CAPACITY (take n bytes) c.from_bytes.result c.from_bytes.ensures short)
