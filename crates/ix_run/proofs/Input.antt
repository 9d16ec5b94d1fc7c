-- Lines in a piece of the input, lines that come in several pieces, and what was read.
use Rattle.std.proofs.Common.{ℕ, ◌≡◌, ◌<◌, ◌≤◌, ◌+◌, ◌-◌, List, [], ◌∷◌, ◌++◌, Option, Some, None, Bool, true, false, MutBor, length, take, drop, refl, sym, ap, subst, ◌∙◌, append_assoc, append-nil, arith}
use Rattle.std.proofs.lemmas.Grind.{common_steps}
use Rattle.std.proofs.lemmas.List.{drop-take, drop-drop}
use Rattle.std.specs.Io.KnownBytes.{Consumes, Keeps}
use Rattle.ix_run.specs.inner.Input.{line_at, last_line, lines_from, limited_line_append}
use Rattle.ix_run.specs.inner.NextLine.{ReadsFrom, Reads, Coming}
use Rattle.ix_run.specs.Lines.{LimitedLine, limited_line, line_feed, IsOneLine}
use Rattle.ix_run.specs.declared.run.devices.line_reader.LineReader.{LineReader}
use Rattle.ix_run.proofs.KnownBytes.{Consumes-nil, Consumes-append, Consumes-Keeps}
use Rattle.ix_run.proofs.Pieces.{Lacks, Lacks-IsOneLine, limited_line_append-nil, limited_line_append-append}

-- bytes appended to the empty line
pub limited_line_append-new : (front : List ℕ) → limited_line_append (Some []) front ≡ limited_line front
limited_line_append-new [] = refl
limited_line_append-new (b ∷ front) = refl

-- a line that has no bytes in place
pub line_at-nil : (line : LimitedLine) (in_place : List ℕ) → in_place ≡ [] → line_at line in_place ≡ line
line_at-nil None in_place e = refl
line_at-nil (Some []) in_place e = rw e refl
line_at-nil (Some (b ∷ line)) in_place e = refl

-- the front of a range
pub take-range : (piece : List ℕ) (start end len : ℕ) → len < length (take (end - start) (drop start piece)) → take len (take (end - start) (drop start piece)) ≡ take ((start + len) - start) (drop start piece)
take-range piece start end len h = grind (arith, common_steps)

-- the rest of a range
pub drop-range : (piece : List ℕ) (start end len : ℕ) → len < length (take (end - start) (drop start piece)) → start ≤ end
    → drop (len + 1) (take (end - start) (drop start piece)) ≡ take (end - ((start + len) + 1)) (drop ((start + len) + 1) piece)
drop-range piece start end len h order =
    let fits : len < end - start = grind (arith, common_steps) in
    let n : end - start ≡ (len + 1) + (end - ((start + len) + 1)) = omega (arith, fits, order) in
    let at : start + (len + 1) ≡ (start + len) + 1 = omega arith in
    ap (λ k. drop (len + 1) (take k (drop start piece))) n
    ∙ drop-take (len + 1) (end - ((start + len) + 1)) (drop start piece)
    ∙ ap (λ l. take (end - ((start + len) + 1)) l) (drop-drop (len + 1) start piece ∙ ap (λ k. drop k piece) at)

-- a piece without a line feed continues the line
pub lines_from-append : (line : LimitedLine) (piece more : List ℕ) → Lacks piece → lines_from line (piece ++ more) ≡ lines_from (limited_line_append line piece) more
lines_from-append line [] more n = ap (λ l. lines_from l more) (sym (limited_line_append-nil line))
lines_from-append line (b ∷ bytes) more (n, m) =
    let step : lines_from line (b ∷ (bytes ++ more)) ≡ lines_from (limited_line_append line (b ∷ [])) (bytes ++ more) = rw n refl in
    step ∙ lines_from-append (limited_line_append line (b ∷ [])) bytes more m ∙ ap (λ l. lines_from l more) (limited_line_append-append line (b ∷ []) bytes)

-- a line feed ends the line
pub lines_from-line_feed : (line : LimitedLine) (piece front back more : List ℕ) → piece ≡ front ++ line_feed ∷ back → Lacks front
    → lines_from line (piece ++ more) ≡ limited_line_append line front ∷ lines_from (Some []) (back ++ more)
lines_from-line_feed line piece front back more e n =
    ap (λ l. lines_from line (l ++ more)) e ∙ ap (λ l. lines_from line l) (append_assoc front (line_feed ∷ back) more) ∙ lines_from-append line front (line_feed ∷ (back ++ more)) n

-- the lines of a piece without a line feed that is the last: the line that it continues, unless that is empty
pub lines_from-last_line : (line : LimitedLine) (piece in_place : List ℕ) → IsOneLine piece → in_place ≡ [] → lines_from line (piece ++ []) ≡ last_line (line_at (limited_line_append line piece) in_place)
lines_from-last_line line piece in_place one none =
    lines_from-append line piece [] (Lacks-IsOneLine piece one) ∙ ap last_line (sym (line_at-nil (limited_line_append line piece) in_place none))

-- a last line that is not empty
pub last_line-cons : (line : LimitedLine) → (line ≡ Some [] → ⊥) → last_line line ≡ line ∷ []
last_line-cons None some = refl
last_line-cons (Some []) some = absurd (some refl)
last_line-cons (Some (b ∷ line)) some = refl

-- a last line that is not empty took some of the fuel
pub fuel-last : (line : LimitedLine) (rest : List ℕ) (fuel before after : ℕ) → ((line ≡ Some [] → ⊥) → before < fuel) → before ≤ fuel → after + length rest ≡ before
    → (limited_line_append line rest ≡ Some [] → ⊥) → after < fuel
fuel-last line [] fuel before after less most left some =
    let h = less (λ e. some (limited_line_append-nil line ∙ e)) in
    omega (arith, h, left)
fuel-last line (b ∷ rest) fuel before after less most left some = omega (arith, most, left)

module _ {R : Type 0} (remaining : R → Option (List ℕ)) where
  ReadsFrom-nil : (ended : Bool) (reader : MutBor R) → ReadsFrom remaining ended reader reader ended []
  ReadsFrom-nil true reader = (refl, refl, refl)
  ReadsFrom-nil false reader = (Consumes-nil _, λ wrong. absurd (cc), refl)

  ReadsFrom-append : (e e' e'' : Bool) (r r' r'' : MutBor R) (xs ys : List ℕ) → ReadsFrom remaining e r r' e' xs → ReadsFrom remaining e' r' r'' e'' ys → ReadsFrom remaining e r r'' e'' (xs ++ ys)
  ReadsFrom-append true true e'' r r' r'' xs ys (same, none, ended) (same', none', ended') = (same' ∙ same, ap (λ l. l ++ ys) none ∙ none', ended')
  ReadsFrom-append true false e'' r r' r'' xs ys (same, none, ended) second = absurd (cc)
  ReadsFrom-append false true e'' r r' r'' xs ys (has, end, name) (same', none', ended') =
      let P : List ℕ → Type 0 = λ l. Consumes (remaining r.now) (remaining r'.now) l in
      rw (same', none') (subst P (sym (append-nil xs)) has, λ _. end refl, name)
  ReadsFrom-append false false e'' r r' r'' xs ys (has, end, name) (has', end', name') = (Consumes-append _ _ _ xs ys has has', end', name' ∙ name)

  pub ReadsFrom-ended : (e e' : Bool) (r r' : MutBor R) (xs : List ℕ) → ReadsFrom remaining e r r' e' xs → e ≡ true → (xs ≡ []) × (e' ≡ true)
  ReadsFrom-ended true e' r r' xs (same, none, ended) is = (none, ended)
  ReadsFrom-ended false e' r r' xs reads is = absurd (cc)

  ReadsFrom-reader : (e e' : Bool) (r r' : MutBor R) (xs : List ℕ) → ReadsFrom remaining e r r' e' xs → r'.ghost_name ≡ r.ghost_name
  ReadsFrom-reader true e' r r' xs (same, none, ended) = ap (λ reader. reader.ghost_name) same
  ReadsFrom-reader false e' r r' xs (has, end, name) = name

  -- the reader is the same
  pub Reads-reader : (a b : LineReader R) (xs : List ℕ) → Reads remaining a b xs → b.reader.ghost_name ≡ a.reader.ghost_name
  Reads-reader a b xs = ReadsFrom-reader a.is_at_end b.is_at_end a.reader b.reader xs

  pub Reads-nil : (a : LineReader R) → Reads remaining a a []
  Reads-nil a = ReadsFrom-nil a.is_at_end a.reader

  pub Reads-append : (a b c : LineReader R) (xs ys : List ℕ) → Reads remaining a b xs → Reads remaining b c ys → Reads remaining a c (xs ++ ys)
  Reads-append a b c xs ys = ReadsFrom-append a.is_at_end b.is_at_end c.is_at_end a.reader b.reader c.reader xs ys

  ReadsFrom-Keeps : (e e' : Bool) (r r' r'' : MutBor R) (xs : List ℕ) → ReadsFrom remaining e r r' e' xs → e' ≡ false → Keeps (remaining r'.now) (remaining r''.now) → r''.ghost_name ≡ r'.ghost_name
      → ReadsFrom remaining e r r'' e' xs
  ReadsFrom-Keeps true e' r r' r'' xs (same, none, ended) unended kept name = absurd (let wrong = sym unended ∙ ended in cc)
  ReadsFrom-Keeps false e' r r' r'' xs (has, end, same) unended kept name = (Consumes-Keeps _ _ _ xs has kept, λ ended. absurd (let wrong = sym unended ∙ ended in cc), name ∙ same)

  -- a read that fails
  pub Reads-Keeps : (a b c : LineReader R) (xs : List ℕ) → Reads remaining a b xs → b.is_at_end ≡ false → Keeps (remaining b.reader.now) (remaining c.reader.now) → c.reader.ghost_name ≡ b.reader.ghost_name
      → c.is_at_end ≡ b.is_at_end → Reads remaining a c xs
  Reads-Keeps a b c xs reads unended kept name same = rw same (ReadsFrom-Keeps a.is_at_end b.is_at_end a.reader b.reader c.reader xs reads unended kept name)

  -- what was read could come
  abbrev pub coming_read : (a b : LineReader R) (xs : List ℕ) → Reads remaining a b xs → Coming a
  coming_read a b xs reads = (xs, λ ended. (ReadsFrom-ended a.is_at_end b.is_at_end a.reader b.reader xs reads ended).0)

  -- and more, if that can come now
  abbrev pub coming_before : (a b : LineReader R) (xs : List ℕ) → Reads remaining a b xs → Coming b → Coming a
  coming_before a b xs reads (more, none) =
      let at : a.is_at_end ≡ true → xs ++ more ≡ [] = λ ended.
      let was = ReadsFrom-ended a.is_at_end b.is_at_end a.reader b.reader xs reads ended in
      ap (λ l. l ++ more) was.0 ∙ none was.1 in
      (xs ++ more, at)
