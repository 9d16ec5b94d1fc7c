-- The last line of an input.
use Rattle.std.proofs.Common.{ℕ, ◌≡◌, ◌<◌, ◌↔◌, List, [], ◌∷◌, ◌++◌, Option, Some, Bool, true, false, not, IsTrue, Ok, refl, sym, ap, ◌∙◌, append-nil}
use Rattle.ix_run.specs.inner.Input.{current_line, last_line, lines_from, lines_to_come}
use Rattle.ix_run.specs.inner.NextLine.{Reads, NextLine}
use Rattle.ix_run.specs.inner.Writing.{WriterAppends}
use Rattle.ix_run.specs.declared.run.devices.line_reader.LineReader.{LineReader}
use Rattle.ix_run.specs.declared.run.devices.reply_writer.ReplyWriter.{ReplyWriter}
use Rattle.ix_run.proofs.Input.{last_line-cons}

module _ {R W : Type 0} (remaining : R → Option (List ℕ)) (contents : W → Option (List ℕ)) where
  -- at the end of the input the last line is the next one, unless it is empty
  pub NextLine-last : (a b : LineReader R) (c d : ReplyWriter W) (read : List ℕ) (is_empty : Bool) → Reads remaining a b read → WriterAppends contents c [] d → b.is_at_end ≡ true → b.buffer.rest ≡ []
      → lines_to_come a.buffer read ≡ last_line (current_line b.buffer) → ((current_line b.buffer ≡ Some [] → ⊥) → b.buffer.fuel < a.buffer.fuel)
      → (IsTrue is_empty ↔ (current_line b.buffer ≡ Some [])) → NextLine remaining contents a c b d (Ok (not is_empty))
  NextLine-last a b c d read true reads w ended none lines fuel is = (read, reads, w, ended, lines ∙ ap last_line (is.0 refl))
  NextLine-last a b c d read false reads w ended none lines fuel is =
      let some : current_line b.buffer ≡ Some [] → ⊥ = λ e. let wrong = is.1 e in cc in
      let left : lines_to_come b.buffer [] ≡ [] = ap (λ l. lines_from (Some []) (l ++ [])) none in (
        read,
        reads,
        w,
        λ more. ap (λ l. lines_to_come a.buffer (read ++ l)) (more.1 ended) ∙ ap (λ l. lines_to_come a.buffer l) (append-nil read) ∙ lines ∙ last_line-cons (current_line b.buffer) some
            ∙ ap (λ l. current_line b.buffer ∷ l) (sym (ap (λ l. lines_to_come b.buffer l) (more.1 ended) ∙ left)),
        fuel some,
      )
