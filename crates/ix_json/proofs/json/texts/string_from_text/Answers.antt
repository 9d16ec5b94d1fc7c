use Rattle.std.proofs.Common.{sym}
use Rattle.ix_json.proofs.TextTrees.{bytes_read-fits}
use Rattle.ix_json.proofs.json.texts.string_from_text.Goals as goal

pub returns-in-Ok : goal.returns-in-Ok
returns-in-Ok g c =
    let made = rw c.as_bytes.ensures.value at c.in-Ok.ensures in
    rw made.2 (sym (bytes_read-fits g.row.CAPACITY c.args.text.now made.0 made.1))
