use Rattle.std.proofs.Common.{refl}
use Rattle.ix_json.proofs.TextTrees.{text_read-String}
use Rattle.ix_json.proofs.json.texts.StaticStringJsonForm.to_value.Goals as goal

pub returns-clause-read_back : goal.returns-clause-read_back
returns-clause-read_back g c _ = text_read-String g.row.CAPACITY c.args.self.now _ c.in_ok-text_from_string.ensures.text (c.in_ok-text_from_string.ensures.read_back refl)
