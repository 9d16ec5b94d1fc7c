-- Lemmas on what a semantic string refuses.
use Rattle.std.proofs.Common.{ℕ, ◌≡◌, ◌+◌, ◌≤◌, ◌∙◌, List, ◌++◌, length, take, drop, length-append, Ok, Err, ap, arith}
use Rattle.std.specs.List.{insert_slice}
use Rattle.std.proofs.lemmas.Grind.{common_steps}
use Rattle.std.proofs.lemmas.List.{take_at, drop_at}
use Rattle.std.proofs.lemmas.List.Elements.{All-take, All-drop}
use Rattle.ix_tables.specs.Bounded.{Bounded}
use Rattle.ix_string.specs.Text.{IsText, IsTextByte}
use Rattle.ix_string.proofs.Texts.{is_text-yes}
use Rattle.ix_string.specs.TextSteps.{text_insert, text_insert_result, text_insert_slice}
use Rattle.ix_string.specs.declared.string.modification_error.StringModificationError.{StringModificationError}
use Rattle.ix_string.specs.declared.string.modification_error.StringModificationError.TheVariants.{InvalidCharacter, InsertWouldExceedCapacity}
use Rattle.ix_semantic_string.specs.ErrorTexts.{semantic_error_of}
use Rattle.ix_semantic_string.specs.Rules.{TextRules}
use Rattle.ix_semantic_string.specs.SemanticSteps.{SemanticResult}

pub length-insert_slice : (text : List ℕ) (i : ℕ) (bytes : List ℕ) → i ≤ length text → length (insert_slice text i bytes) ≡ length text + length bytes
length-insert_slice text i bytes within = grind (arith, common_steps)

-- the bytes that were inserted into a text are text
pub IsText-inserted : (text : List ℕ) (i : ℕ) (bytes : List ℕ) → i ≤ length text → IsText (insert_slice text i bytes) → IsText bytes
IsText-inserted text i bytes within is =
    let front : length (take i text) ≡ i = grind (arith, common_steps) in
    let counted : length (take i text ++ bytes) ≡ i + length bytes = length-append (take i text) bytes ∙ ap (λ (k : ℕ). k + length bytes) front in
    let before : take (i + length bytes) (insert_slice text i bytes) ≡ take i text ++ bytes = take_at (take i text ++ bytes) (drop i text) (i + length bytes) counted in
    let P : ℕ → Type 0 = λ b. IsTextByte b in
    let some : IsText (take i text ++ bytes) = rw before at (All-take P (i + length bytes) (insert_slice text i bytes) is) in
    let behind : drop i (take i text ++ bytes) ≡ bytes = drop_at (take i text) bytes i front in
    rw behind at (All-drop P i (take i text ++ bytes) some)

-- what a string does not refuse is inserted
pub text_insert-ok : (text : Bounded ℕ) (i : ℕ) (bytes : List ℕ) (x : Unit {0}) → text_insert_result text bytes ≡ Ok x → text_insert text i bytes ≡ text_insert_slice text i bytes
text_insert-ok text i bytes x is = grind (arith, common_steps)

-- what a string refuses to insert, a semantic string does
pub SemanticResult-refused : (capacity : ℕ) (texts : TextRules) (text : List ℕ) (i : ℕ) (bytes : List ℕ) (error : StringModificationError) → i ≤ length text
    → text_insert_result record { items = text; capacity = capacity } bytes ≡ Err error → SemanticResult capacity texts (insert_slice text i bytes) (tt {0}) (Err (semantic_error_of error))
SemanticResult-refused capacity texts text i bytes InvalidCharacter within is =
    let longer = length-insert_slice text i bytes within in
    (grind (arith, common_steps), λ accepted. let passes = is_text-yes bytes (IsText-inserted text i bytes within accepted.text) in grind (arith, common_steps))
SemanticResult-refused capacity texts text i bytes InsertWouldExceedCapacity within is =
    let longer = length-insert_slice text i bytes within in grind (arith, common_steps)
