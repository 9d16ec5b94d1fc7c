-- The laws of lines and of scripts.
use Rattle.std.proofs.Common.{ℕ, ◌≡◌, ◌≢◌, ◌<◌, ◌≤◌, ◌^◌, ◌⊎◌, inl, inr, List, [], ◌∷◌, ◌++◌, Some, None, All, length, map, nat_le, nat_eq, Bool, true, false, cond, refl, sym, ap, ◌∙◌, append_assoc, arith, decimal, codes, bytes_eq, rules, Option}
use Rattle.std.specs.Char.{is_ascii_digit}
use Rattle.std.specs.Str.{all_ascii_digits}
use Rattle.std.proofs.lemmas.Bool.{and_parts, eqb-true}
use Rattle.std.proofs.lemmas.Fmt.{length-decimal-le}
use Rattle.std.proofs.lemmas.Grind.{common_steps}
use Rattle.std.proofs.lemmas.List.Elements.{All-cons, All-head, All-nil, All-tail}
use Rattle.std.proofs.lemmas.Slice.Eq.{bytes_eq-Decides}
use Rattle.std.specs.List.{onto_first}
use Rattle.ix_commands.specs.Run.{run_replies}
use Rattle.ix_run.specs.Headers.{IsStorage, IsStart, capacity_of, fixed_capacity, container_name, storage_text, with_start}
use Rattle.ix_run.specs.Laws.{header_line, AreLinesOf, IsRunBy}
use Rattle.ix_run.specs.Lines.{line_feed, IsOneLine, with_line_feed, text_of_lines, lines_of, limited_line}
use Rattle.ix_run.specs.Script.{replies_to, script_replies, container_replies, replies_to_lines, read_reply, read_after}
use Rattle.ix_run.specs.Words.{words_text}
use Rattle.ix_run.specs.declared.run.grammar.header.Container.{Container}
use Rattle.ix_run.specs.declared.run.grammar.header.Container.TheVariants.{Queue, Vector, SlotTable, SlotMap, FlatMap, String}
use Rattle.ix_run.specs.declared.run.grammar.header.Storage.{Storage}
use Rattle.ix_run.specs.declared.run.grammar.header.Storage.TheVariants.{Fixed, Heap, Arena}
use Rattle.ix_run.specs.declared.run.grammar.header.FixedCapacity.{FixedCapacity}
use Rattle.ix_run.specs.declared.run.grammar.header.FixedCapacity.TheVariants.{Zero, One, Three, Eight}
use Rattle.ix_run.specs.declared.run.devices.limits.TheConstants.{MAX_LINE_LEN}
use Rattle.ix_run.proofs.Headers.{header_of_header_text}
use Rattle.ix_run.proofs.Numbers.{IsNumeral-decimal}
use Rattle.ix_run.proofs.Pieces.{Lacks, Lacks-IsOneLine, not_true}

-- the first line is the bytes before the first line feed
lines_of-with_line_feed : (line rest : List ℕ) → Lacks line → lines_of (with_line_feed line ++ rest) ≡ line ∷ lines_of rest
lines_of-with_line_feed [] rest n = refl
lines_of-with_line_feed (b ∷ line) rest (n, m) = rw n (ap (onto_first b) (lines_of-with_line_feed line rest m))

-- bytes without a line feed are one line
lines_of-cons : (b : ℕ) (line : List ℕ) → Lacks (b ∷ line) → lines_of (b ∷ line) ≡ (b ∷ line) ∷ []
lines_of-cons b [] (n, m) = rw n refl
lines_of-cons b (c ∷ line) (n, m) = rw n (ap (onto_first b) (lines_of-cons c line m))

lines_of-IsOneLine : (last : List ℕ) → IsOneLine last → last ≢ [] → lines_of last ≡ last ∷ []
lines_of-IsOneLine [] h some = absurd (some refl)
lines_of-IsOneLine (b ∷ line) h some = lines_of-cons b line (Lacks-IsOneLine (b ∷ line) h)

pub lines_of-text_of_lines_append : (lines : List (List ℕ)) (last : List ℕ) → All IsOneLine lines → IsOneLine last → last ≢ [] → lines_of (text_of_lines lines ++ last) ≡ lines ++ last ∷ []
lines_of-text_of_lines_append [] last h one some = lines_of-IsOneLine last one some
lines_of-text_of_lines_append (line ∷ lines) last h one some =
    ap lines_of (append_assoc (with_line_feed line) (text_of_lines lines) last)
    ∙ lines_of-with_line_feed line (text_of_lines lines ++ last) (Lacks-IsOneLine line (All-head IsOneLine line lines h))
    ∙ ap (λ ls. line ∷ ls) (lines_of-text_of_lines_append lines last (All-tail IsOneLine line lines h) one some)

pub lines_of-text_of_lines : (lines : List (List ℕ)) → All IsOneLine lines → lines_of (text_of_lines lines) ≡ lines
lines_of-text_of_lines [] h = refl
lines_of-text_of_lines (line ∷ lines) h =
    lines_of-with_line_feed line (text_of_lines lines) (Lacks-IsOneLine line (All-head IsOneLine line lines h)) ∙ ap (λ ls. line ∷ ls) (lines_of-text_of_lines lines (All-tail IsOneLine line lines h))

abbrev IsWhole : List ℕ → List (List ℕ) → Type 0
IsWhole input lines = (input ≡ text_of_lines lines) ⊎ (with_line_feed input ≡ text_of_lines lines)

IsWhole-onto_first : (b : ℕ) (bytes : List ℕ) (lines : List (List ℕ)) → IsWhole bytes lines → IsWhole (b ∷ bytes) (onto_first b lines)
IsWhole-onto_first b bytes [] (inl e) = inr (ap (λ l. b ∷ with_line_feed l) e)
IsWhole-onto_first b [] [] (inr e) = absurd (cc)
IsWhole-onto_first b (c ∷ bytes) [] (inr e) = absurd (cc)
IsWhole-onto_first b bytes (line ∷ lines) (inl e) = inl (ap (λ l. b ∷ l) e)
IsWhole-onto_first b bytes (line ∷ lines) (inr e) = inr (ap (λ l. b ∷ l) e)

IsWhole-cond : (b : ℕ) (bytes : List ℕ) (t : Bool) → nat_eq b line_feed ≡ t → IsWhole bytes (lines_of bytes) → IsWhole (b ∷ bytes) (cond t ([] ∷ lines_of bytes) (onto_first b (lines_of bytes)))
IsWhole-cond b bytes true e (inl w) = inl (ap (λ c. c ∷ bytes) (eqb-true b line_feed e) ∙ ap (λ l. line_feed ∷ l) w)
IsWhole-cond b bytes true e (inr w) = inr (ap (λ c. c ∷ with_line_feed bytes) (eqb-true b line_feed e) ∙ ap (λ l. line_feed ∷ l) w)
IsWhole-cond b bytes false e w = IsWhole-onto_first b bytes (lines_of bytes) w

pub IsWhole-lines_of : (input : List ℕ) → IsWhole input (lines_of input)
IsWhole-lines_of [] = inl refl
IsWhole-lines_of (b ∷ bytes) = IsWhole-cond b bytes (nat_eq b line_feed) refl (IsWhole-lines_of bytes)

-- no digit is a line feed
Lacks-digits : (digits : List ℕ) → all_ascii_digits digits ≡ true → Lacks digits
Lacks-digits [] h = tt
Lacks-digits (c ∷ digits) h =
    let parts = and_parts (is_ascii_digit c) (all_ascii_digits digits) h in
    (not_true (nat_eq c line_feed) (λ e. let digit = rw (eqb-true c line_feed e) at parts.0 in cc), Lacks-digits digits parts.1)

pub Lacks-decimal : (n : ℕ) → n < 2 ^ 64 → Lacks (decimal n)
Lacks-decimal n h = Lacks-digits (decimal n) (IsNumeral-decimal (decimal n) n h refl).digits

limited_line-short : (line : List ℕ) → length line ≤ MAX_LINE_LEN → limited_line line ≡ Some line
limited_line-short line short = let t : nat_le (length line) MAX_LINE_LEN ≡ true = grind (arith, common_steps) in rw t refl

pub IsOneLine-Lacks : (bytes : List ℕ) → Lacks bytes → IsOneLine bytes
IsOneLine-Lacks [] h = All-nil (λ b. b ≢ line_feed)
IsOneLine-Lacks (b ∷ bytes) (n, m) = All-cons (λ c. c ≢ line_feed) b bytes (λ e. let same = rw e at n in cc) (IsOneLine-Lacks bytes m)

pub Lacks-append : (a b : List ℕ) → Lacks a → Lacks b → Lacks (a ++ b)
Lacks-append [] b h k = k
Lacks-append (x ∷ a) b (n, m) k = (n, Lacks-append a b m k)

-- the text of a header is one line that is read
Lacks-container_name : (container : Container) → Lacks (container_name container)
Lacks-container_name Queue = search rules
Lacks-container_name Vector = search rules
Lacks-container_name SlotTable = search rules
Lacks-container_name (SlotMap start) = search rules
Lacks-container_name FlatMap = search rules
Lacks-container_name String = search rules

Lacks-last_number : (name : List ℕ) (n : ℕ) → n < 2 ^ 64 → Lacks name → Lacks (name ++ ((codes " " ++ decimal n) ++ []))
Lacks-last_number name n h k = Lacks-append name ((codes " " ++ decimal n) ++ []) k (Lacks-append (codes " " ++ decimal n) [] (refl, Lacks-decimal n h) tt)

fixed_capacity-small : (capacity : FixedCapacity) → fixed_capacity capacity < 2 ^ 64
fixed_capacity-small Zero = omega arith
fixed_capacity-small One = omega arith
fixed_capacity-small Three = omega arith
fixed_capacity-small Eight = omega arith

Lacks-storage_text : (storage : Storage) → IsStorage storage → Lacks (storage_text storage)
Lacks-storage_text (Fixed capacity) h = Lacks-last_number (codes "fixed") (fixed_capacity capacity) (fixed_capacity-small capacity) (search rules)
Lacks-storage_text (Heap n) h = Lacks-last_number (codes "heap") n (omega (arith, h)) (search rules)
Lacks-storage_text (Arena n) h = Lacks-last_number (codes "arena") n (omega (arith, h)) (search rules)

length-last_number : (name : List ℕ) (n : ℕ) → n < 2 ^ 64 → length name ≤ 5 → length (name ++ ((codes " " ++ decimal n) ++ [])) ≤ 30
length-last_number name n h short =
    let digits = length-decimal-le 20 n (omega arith) (omega arith) h in
    grind (arith, common_steps, short, digits)

length-storage_text : (storage : Storage) → IsStorage storage → length (storage_text storage) ≤ 30
length-storage_text (Fixed capacity) h = length-last_number (codes "fixed") (fixed_capacity capacity) (fixed_capacity-small capacity) (omega arith)
length-storage_text (Heap n) h = length-last_number (codes "heap") n (omega (arith, h)) (omega arith)
length-storage_text (Arena n) h = length-last_number (codes "arena") n (omega (arith, h)) (omega arith)

length-container_name : (container : Container) → length (container_name container) ≤ 5
length-container_name Queue = omega arith
length-container_name Vector = omega arith
length-container_name SlotTable = omega arith
length-container_name (SlotMap start) = omega arith
length-container_name FlatMap = omega arith
length-container_name String = omega arith

Lacks-with_start : (container : Container) (text : List ℕ) → IsStart container → Lacks text → Lacks (with_start container text)
Lacks-with_start (SlotMap (Some g)) text h k =
    Lacks-append text (codes " " ++ words_text (codes "at") (g ∷ [])) k (refl, Lacks-last_number (codes "at") g (omega (arith, h)) (search rules))
Lacks-with_start (SlotMap None) text h k = k
Lacks-with_start other text h k = k

length-with_start : (container : Container) (text : List ℕ) → IsStart container → length text ≤ 40 → length (with_start container text) ≤ 80
length-with_start (SlotMap (Some g)) text h short =
    let more = length-last_number (codes "at") g (omega (arith, h)) (omega arith) in
    grind (arith, common_steps, short, more)
length-with_start (SlotMap None) text h short = omega (arith, short)
length-with_start other text h short = omega (arith, short)

IsOneLine-header_line : (container : Container) (storage : Storage) → IsStorage storage → IsStart container → IsOneLine (header_line container storage)
IsOneLine-header_line container storage h start =
    IsOneLine-Lacks (header_line container storage) (Lacks-with_start container (container_name container ++ (codes " " ++ storage_text storage)) start
    (Lacks-append (container_name container) (codes " " ++ storage_text storage) (Lacks-container_name container) (refl, Lacks-storage_text storage h)))

limited_line-header_line : (container : Container) (storage : Storage) → IsStorage storage → IsStart container → limited_line (header_line container storage) ≡ Some (header_line container storage)
limited_line-header_line container storage h start =
    let name = length-container_name container in
    let text = length-storage_text storage h in
    let plain : length (container_name container ++ (codes " " ++ storage_text storage)) ≤ 40 = grind (arith, common_steps, name, text) in
    let all = length-with_start container (container_name container ++ (codes " " ++ storage_text storage)) start plain in
    limited_line-short (header_line container storage) (omega (arith, all))

-- the replies to a header and to the lines after it
replies_to-header_line : (container : Container) (storage : Storage) (lines : List (List ℕ)) → IsStorage storage → IsStart container → All IsOneLine lines
    → replies_to (text_of_lines (header_line container storage ∷ lines)) ≡ with_line_feed (codes "ready") ++ container_replies container (capacity_of storage) (map limited_line lines)
unfolding replies_to
replies_to-header_line container storage lines h start all =
    let whole = All-cons IsOneLine (header_line container storage) lines (IsOneLine-header_line container storage h start) all in
    let header = header_of_header_text (header_line container storage) (record { container = container; storage = storage }) h start refl in
    ap (λ ls. script_replies (map limited_line ls)) (lines_of-text_of_lines (header_line container storage ∷ lines) whole)
    ∙ rw (limited_line-header_line container storage h start, header) refl

module _ {M C R : Type 0} (read : List ℕ → Option C) (text : R → List ℕ) (reply : M → C → R) (after : M → C → M) (shown : M → List ℕ) where
  All-AreLinesOf : (lines : List (List ℕ)) (commands : List C) → AreLinesOf read text lines commands → All IsOneLine lines
  All-AreLinesOf [] [] h = All-nil IsOneLine
  All-AreLinesOf [] (command ∷ commands) h = absurd h
  All-AreLinesOf (line ∷ lines) [] h = absurd h
  All-AreLinesOf (line ∷ lines) (command ∷ commands) (h, rest) = All-cons IsOneLine line lines h.0 (All-AreLinesOf lines commands rest)

  -- a line that spells a command does not show the container
  not_show : read (codes "show") ≡ None → (line : List ℕ) (command : C) (t : Bool) → bytes_eq line (codes "show") ≡ t → read line ≡ Some command → t ≡ false
  not_show none line command true e is = let wrong = sym none ∙ ap read (sym ((bytes_eq-Decides line (codes "show")).0 e)) ∙ is in absurd (cc)
  not_show none line command false e is = refl

  replies_to_lines-AreLinesOf : read (codes "show") ≡ None → (model : M) (lines : List (List ℕ)) (commands : List C) → AreLinesOf read text lines commands
      → replies_to_lines (read_reply read text reply) (read_after read after) shown model (map limited_line lines) ≡ text_of_lines (map text (run_replies reply after model commands))
  replies_to_lines-AreLinesOf none model [] [] h = refl
  replies_to_lines-AreLinesOf none model [] (command ∷ commands) h = absurd h
  replies_to_lines-AreLinesOf none model (line ∷ lines) [] h = absurd h
  replies_to_lines-AreLinesOf none model (line ∷ lines) (command ∷ commands) ((one, short, is), rest) =
      rw (limited_line-short line short, not_show none line command (bytes_eq line (codes "show")) refl is, is)
      (ap (λ l. with_line_feed (text (reply model command)) ++ l) (replies_to_lines-AreLinesOf none (after model command) lines commands rest))

  -- the law of one container
  pub IsRunBy-container : (container : Container) (storage : Storage) (model : M) → read (codes "show") ≡ None
      → ((lines : List (Option (List ℕ))) → container_replies container (capacity_of storage) lines ≡ replies_to_lines (read_reply read text reply) (read_after read after) shown model lines)
      → IsRunBy read text reply after container storage model
  IsRunBy-container container storage model none same h start lines commands are =
      replies_to-header_line container storage lines h start (All-AreLinesOf lines commands are)
      ∙ ap (λ l. with_line_feed (codes "ready") ++ l) (same (map limited_line lines) ∙ replies_to_lines-AreLinesOf none model lines commands are)
