-- The lines of an input, byte by byte and line by line.
use Rattle.std.proofs.Common.{ℕ, ◌≡◌, List, [], ◌∷◌, ◌++◌, Some, None, map, length, nat_le, nat_eq, Bool, true, false, cond, refl, sym, ap, ◌∙◌}
use Rattle.std.specs.List.{onto_first}
use Rattle.ix_run.specs.inner.Input.{last_line, lines_from, limited_line_append}
use Rattle.ix_run.specs.Lines.{LimitedLine, limited_line, line_feed, lines_of}
use Rattle.ix_run.specs.Script.{script_replies, replies_to}
use Rattle.ix_run.specs.declared.run.devices.limits.TheConstants.{MAX_LINE_LEN}
use Rattle.ix_run.proofs.Pieces.{limited_line_append-nil, limited_line_append-append}

-- lines, of which the first continues this line
abbrev lines_after : LimitedLine → List (List ℕ) → List LimitedLine
lines_after line [] = last_line line
lines_after line (l ∷ lines) = limited_line_append line l ∷ map limited_line lines

lines_after-nil : (lines : List (List ℕ)) → lines_after (Some []) lines ≡ map limited_line lines
lines_after-nil [] = refl
lines_after-nil ([] ∷ lines) = refl
lines_after-nil ((b ∷ bytes) ∷ lines) = refl

last_line-snoc : (line : List ℕ) (b : ℕ) (t : Bool) → last_line (cond t (Some (line ++ b ∷ [])) None) ≡ cond t (Some (line ++ b ∷ [])) None ∷ []
last_line-snoc [] b true = refl
last_line-snoc (c ∷ line) b true = refl
last_line-snoc line b false = refl

lines_after-onto_first : (line : LimitedLine) (b : ℕ) (lines : List (List ℕ)) → lines_after (limited_line_append line (b ∷ [])) lines ≡ lines_after line (onto_first b lines)
lines_after-onto_first None b [] = refl
lines_after-onto_first (Some line) b [] = last_line-snoc line b (nat_le (length (line ++ b ∷ [])) MAX_LINE_LEN)
lines_after-onto_first line b (l ∷ lines) = ap (λ k. k ∷ map limited_line lines) (limited_line_append-append line (b ∷ []) l)

lines_from-cond : (line : LimitedLine) (b : ℕ) (bytes : List ℕ) (t : Bool) → ((line' : LimitedLine) → lines_from line' bytes ≡ lines_after line' (lines_of bytes))
    → cond t (line ∷ lines_from (Some []) bytes) (lines_from (limited_line_append line (b ∷ [])) bytes) ≡ lines_after line (cond t ([] ∷ lines_of bytes) (onto_first b (lines_of bytes)))
lines_from-cond line b bytes true h =
    ap (λ l. line ∷ l) (h (Some []) ∙ lines_after-nil (lines_of bytes)) ∙ ap (λ k. k ∷ map limited_line (lines_of bytes)) (sym (limited_line_append-nil line))
lines_from-cond line b bytes false h = h (limited_line_append line (b ∷ [])) ∙ lines_after-onto_first line b (lines_of bytes)

lines_from-lines_after : (line : LimitedLine) (bytes : List ℕ) → lines_from line bytes ≡ lines_after line (lines_of bytes)
lines_from-lines_after line [] = refl
lines_from-lines_after line (b ∷ bytes) = lines_from-cond line b bytes (nat_eq b line_feed) (λ line'. lines_from-lines_after line' bytes)

-- the replies byte by byte are those line by line
pub replies_to-lines_from : (bytes : List ℕ) → replies_to bytes ≡ script_replies (lines_from (Some []) bytes)
unfolding replies_to
replies_to-lines_from bytes = ap script_replies (sym (lines_from-lines_after (Some []) bytes ∙ lines_after-nil (lines_of bytes)))
