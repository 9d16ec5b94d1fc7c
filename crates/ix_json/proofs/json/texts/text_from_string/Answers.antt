use Rattle.std.proofs.Common.{◌≡◌, arith}
use Rattle.std.proofs.lemmas.Grind.{common_steps}
use Rattle.ix_string.proofs.Texts.{IsUtf8-text}
use Rattle.ix_json.proofs.TextTrees.{bytes_read-fits}
use Rattle.ix_json.proofs.json.texts.text_from_string.Goals as goal

pub from_utf8_unchecked-requires : goal.from_utf8_unchecked-requires
from_utf8_unchecked-requires g c =
    let copied : c.extend_from_slice.new.self.items ≡ c.as_bytes.result.now = grind (arith, common_steps) in
    rw copied (IsUtf8-text c.as_bytes.result.now c.as_bytes.ensures.text)

pub returns-clause-read_back : goal.returns-clause-read_back
returns-clause-read_back g c _ =
    let is_text = rw c.as_bytes.ensures.value at c.as_bytes.ensures.text in
    bytes_read-fits g.row.CAPACITY c.args.string.now c.len.ensures.within is_text
