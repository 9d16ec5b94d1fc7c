-- A text that fits is read as itself.
use Rattle.std.proofs.Common.{ℕ, ◌≡◌, ◌∙◌, ◌≤◌, ap, List, length, String, Global, string_bytes, rules, arith}
use Rattle.std.proofs.lemmas.Grind.{common_steps}
use Rattle.std.specs.Prelude.{Ok}
use Rattle.serde_json.specs.Data.{string}
use Rattle.serde_json.specs.View.{view}
use Rattle.serde_json.specs.declared.value.Value.{the_lemmas}
use Rattle.serde_json.specs.declared.value.Value.TheVariants as value
use Rattle.ix_string.specs.Text.{IsText}
use Rattle.ix_string.proofs.Texts.{is_text-yes}
use Rattle.ix_json.specs.JsonTree.{bytes_read, text_read}

-- bytes that fit and are text are read as they are
pub bytes_read-fits : (capacity : ℕ) (bytes : List ℕ) → length bytes ≤ capacity → IsText bytes → bytes_read capacity bytes ≡ Ok bytes
bytes_read-fits capacity bytes fits is = let holds = is_text-yes bytes is in grind (arith, common_steps)

view-String : (text : String Global) → view (value.String text) ≡ string (string_bytes text)
view-String text = search (rules, the_lemmas)

-- the value of a text is read as the bytes of the text are
pub text_read-String : (capacity : ℕ) (bytes : List ℕ) (text : String Global) → string_bytes text ≡ bytes → bytes_read capacity bytes ≡ Ok bytes → text_read capacity (view (value.String text)) ≡ Ok bytes
text_read-String capacity bytes text same back = ap (text_read capacity) (view-String text) ∙ ap (bytes_read capacity) same ∙ back
