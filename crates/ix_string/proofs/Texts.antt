-- Lemmas on texts.
use Rattle.std.proofs.Common.{ℕ, ◌≡◌, ◌+◌, ◌-◌, ◌≤◌, List, ◌++◌, length, take, drop, ap, sym, ◌∙◌, arith, rules}
use Rattle.std.proofs.lemmas.Grind.{common_steps}
use native.Mathlib.Numerals.{unary_clauses}
use Rattle.std.proofs.lemmas.List.{take_at, drop-replicate, replicate-append-replicate}
use Rattle.std.proofs.lemmas.List.Elements.{All-append, All-take, All-drop}
use Rattle.std.proofs.Math.Seq.{drop-append-add}
use Rattle.std.specs.Prelude.{replicate}
use Rattle.std.specs.List.{insert_slice, remove_range}
use Rattle.std.specs.Result.{result_or}
use Rattle.std.specs.Str.{IsAscii, IsUtf8}
use Rattle.std.proofs.lemmas.Str.{IsUtf8-from_ascii}
use Rattle.std.proofs.lemmas.List.Sums.{AllPass-from_list_all, list_all-from_AllPass}
use Rattle.std.specs.Prelude.{if◌then◌else◌, Bool, Result, Ok, Err, IsOk, refl, ◌↔◌, true, false}
use Rattle.ix_string.specs.Text.{IsText, IsTextByte, padded_text, is_text, is_text_byte}
use Rattle.ix_string.specs.inner.Padding.{IsPadded}
use Rattle.ix_tables.specs.Bounded.{Bounded}
use Rattle.ix_string.specs.TextSteps.{TextResult, StringFromBytes, has_room_for, text_insert_result}
use Rattle.ix_string.specs.declared.string.modification_error.StringModificationError.{StringModificationError}
use Rattle.ix_string.specs.declared.string.modification_error.StringModificationError.TheVariants.{InvalidCharacter, InsertWouldExceedCapacity}

pub IsAscii-text : (text : List ℕ) → IsText text → IsAscii text
IsAscii-text text is i = grind (arith, common_steps, is i 0)

pub IsUtf8-text : (text : List ℕ) → IsText text → IsUtf8 text
IsUtf8-text text is = IsUtf8-from_ascii text (IsAscii-text text is)

pub IsText-insert_slice : (text : List ℕ) (i : ℕ) (bytes : List ℕ) → IsText text → IsText bytes → IsText (insert_slice text i bytes)
IsText-insert_slice text i bytes is more =
    let P : ℕ → Type 0 = λ b. IsTextByte b in
    All-append P (take i text ++ bytes) (drop i text) (All-append P (take i text) bytes (All-take P i text is) more) (All-drop P i text is)

pub IsText-remove_range : (text : List ℕ) (i j : ℕ) → IsText text → IsText (remove_range text i j)
IsText-remove_range text i j is =
    let P : ℕ → Type 0 = λ b. IsTextByte b in
    All-append P (take i text) (drop j text) (All-take P i text is) (All-drop P j text is)

-- from n bytes after the text on, there are zeros
drop-padded_text : (capacity count : ℕ) (text : List ℕ) (n : ℕ) → length text ≡ count → drop (count + n) (padded_text capacity text) ≡ replicate (capacity - (count + n)) 0
drop-padded_text capacity count text n counted =
    let behind = drop-append-add text (replicate (capacity - length text) 0) n in
    let left = drop-replicate n (capacity - length text) 0 in
    let fewer : (capacity - length text) - n ≡ capacity - (count + n) = omega arith in
    ap (λ (k : ℕ). drop (k + n) (padded_text capacity text)) (sym counted) ∙ behind ∙ left ∙ ap (λ (k : ℕ). replicate k 0) fewer

-- from n bytes after the text on, there are zeros
pub drop-IsPadded : (capacity count : ℕ) (bytes : List ℕ) (n : ℕ) → IsPadded capacity count bytes → drop (count + n) bytes ≡ replicate (capacity - (count + n)) 0
drop-IsPadded capacity count bytes n is =
    let within = is.within in
    let counted : length (take count bytes) ≡ count = grind (arith, common_steps, is.whole) in
    ap (drop (count + n)) is.zeros ∙ drop-padded_text capacity count (take count bytes) n counted

pub IsPadded-from_text : (capacity count : ℕ) (text bytes : List ℕ) → bytes ≡ text ++ replicate (capacity - count) 0 → length text ≡ count → count ≤ capacity → IsText text → IsPadded capacity count bytes
IsPadded-from_text capacity count text bytes parts counted within is =
    let front : take count bytes ≡ text = rw parts (take_at text (replicate (capacity - count) 0) count counted) in
    record {
      within = within;
      whole = grind (arith, common_steps);
      text = rw front is;
      zeros = rw (front, counted) parts;
    }

-- a shorter text, and zeros where the last n bytes of the longer one were
pub IsPadded-shortened : (capacity count n : ℕ) (bytes text buffer : List ℕ) → IsPadded capacity count bytes → n ≤ count → length text ≡ count - n → IsText text
    → buffer ≡ text ++ (replicate n 0 ++ drop count bytes) → IsPadded capacity (count - n) buffer
IsPadded-shortened capacity count n bytes text buffer was le shorter is parts =
    let within = was.within in
    let zeros : drop count bytes ≡ replicate (capacity - count) 0 = simp unary_clauses at (drop-IsPadded capacity count bytes 0 was) in
    let sum : n + (capacity - count) ≡ capacity - (count - n) = omega arith in
    let more : replicate {A = ℕ} n 0 ++ replicate {A = ℕ} (capacity - count) 0 ≡ replicate (capacity - (count - n)) 0 = replicate-append-replicate n (capacity - count) 0 ∙ ap (λ (k : ℕ). replicate {A = ℕ} k 0) sum in
    IsPadded-from_text capacity (count - n) text buffer (rw (parts, zeros, more)) shorter (omega arith) is

-- the test for a text
pub is_text-yes : (bytes : List ℕ) → IsText bytes → is_text bytes ≡ true
is_text-yes bytes is = list_all-from_AllPass is_text_byte bytes (λ k d lt. let here = is k d lt in grind (arith, common_steps))

IsText-yes : (bytes : List ℕ) → is_text bytes ≡ true → IsText bytes
IsText-yes bytes passes k d lt = let here = AllPass-from_list_all is_text_byte bytes passes k d lt in grind (arith, common_steps)

pub IsText-not : (bytes : List ℕ) → is_text bytes ≡ false → ¬ IsText bytes
IsText-not bytes fails is = let passes = is_text-yes bytes is in cc

-- if there is room, a string is made exactly of text
pub IsOk-StringFromBytes : (capacity : ℕ) (bytes : List ℕ) (result : Result (List ℕ) StringModificationError) → StringFromBytes capacity bytes result → length bytes ≤ capacity → IsOk result ↔ IsText bytes
IsOk-StringFromBytes capacity bytes (Ok string) gives room = (λ _. gives.1, λ _. search rules)
IsOk-StringFromBytes capacity bytes (Err InvalidCharacter) gives room = (λ made. absurd (search rules), λ is. absurd (gives.1 is))
IsOk-StringFromBytes capacity bytes (Err InsertWouldExceedCapacity) gives room = absurd (omega arith)

-- what an insertion returns, by its two tests
abbrev insert_result : Bool → Bool → TextResult
insert_result room all = if room then (if all then Ok tt else Err InvalidCharacter) else Err InsertWouldExceedCapacity

IsOk-insert_result : {E : Type 0} (error : E) (room all : Bool) → IsOk (result_or (insert_result room all) (Err error)) ↔ (room ≡ true) × (all ≡ true)
IsOk-insert_result error true true = (λ _. (refl, refl), λ _. refl)
IsOk-insert_result error true false = (λ never. absurd (search rules), λ both. absurd (search (rules, both.1)))
IsOk-insert_result error false all = (λ never. absurd (search rules), λ both. absurd (search (rules, both.0)))

-- an insertion is made exactly if the bytes fit and are text, whichever error is given for those of strings
pub IsOk-text_insert_result : {E : Type 0} (error : E) (text : Bounded ℕ) (bytes : List ℕ)
    → IsOk (result_or (text_insert_result text bytes) (Err error)) ↔ (length text.items + length bytes ≤ text.capacity) × IsText bytes
IsOk-text_insert_result error text bytes =
    let tests = IsOk-insert_result error (has_room_for text bytes) (is_text bytes) in (
      λ made. let both = tests.0 made in (search (rules, both.0), IsText-yes bytes both.1),
      λ fits. tests.1 (search (rules, fits.0), is_text-yes bytes fits.1),
    )
