-- Lemmas on changes of a text that are undone.
use Rattle.std.proofs.Common.{ℕ, zero, suc, ◌≡◌, ◌+◌, ◌-◌, ◌≤◌, ◌∙◌, List, [], ◌∷◌, ◌++◌, length, take, drop, remove, length-append, append_assoc, refl, ap, arith, rules}
use Rattle.std.specs.Prelude.{Some, slice_get}
use Rattle.std.specs.List.{insert_slice, remove_range}
use Rattle.std.proofs.lemmas.List.{take_at, drop_at, take-append-drop}
use Rattle.std.proofs.lemmas.List.Elements.{All-take, All-drop}
use Rattle.std.proofs.lemmas.Grind.{common_steps}
use Rattle.ix_string.specs.Text.{IsText, IsTextByte, MatchesAt, EndsWith}

-- inserted bytes are removed
pub remove_range-insert_slice : (text : List ℕ) (i : ℕ) (bytes : List ℕ) → i ≤ length text → remove_range (insert_slice text i bytes) i (i + length bytes) ≡ text
remove_range-insert_slice text i bytes within =
    let front : length (take i text) ≡ i = grind (arith, common_steps) in
    let counted : length (take i text ++ bytes) ≡ i + length bytes = length-append (take i text) bytes ∙ ap (λ (k : ℕ). k + length bytes) front in
    let before : take i (insert_slice text i bytes) ≡ take i text = rw append_assoc (take_at (take i text) (bytes ++ drop i text) i front) in
    let behind : drop (i + length bytes) (insert_slice text i bytes) ≡ drop i text = drop_at (take i text ++ bytes) (drop i text) (i + length bytes) counted in
    rw (before, behind) (take-append-drop i text)

-- a removed byte is inserted
pub insert_slice-remove : (text : List ℕ) (i byte : ℕ) → slice_get text i ≡ Some byte → insert_slice (remove text i) i (byte ∷ []) ≡ text
insert_slice-remove [] i byte is = absurd (search rules)
insert_slice-remove (x ∷ text) zero byte is = ap (λ (b : ℕ). b ∷ text) (search rules)
insert_slice-remove (x ∷ text) (suc i) byte is = ap (λ (r : List ℕ). x ∷ r) (insert_slice-remove text i byte is)

-- a part of a text is text
pub IsText-prefix : (text bytes : List ℕ) → IsText text → MatchesAt text bytes 0 → IsText bytes
IsText-prefix text bytes is found =
    let none : found.front ≡ [] = grind (arith, common_steps, found.index) in
    let parts : text ≡ bytes ++ found.rest = rw none at found.parts in
    let front : take (length bytes) text ≡ bytes = rw parts (take_at bytes found.rest (length bytes) refl) in
    rw front at (All-take (λ b. IsTextByte b) (length bytes) text is)

pub IsText-suffix : (text bytes : List ℕ) → IsText text → EndsWith text bytes → IsText bytes
IsText-suffix text bytes is ends =
    let behind : drop (length ends.0) text ≡ bytes = ap (drop (length ends.0)) ends.1 ∙ drop_at ends.0 bytes (length ends.0) refl in
    rw behind at (All-drop (λ b. IsTextByte b) (length ends.0) text is)

-- there is room for a removed prefix
pub room-prefix : (text bytes : List ℕ) (capacity : ℕ) → length text ≤ capacity → MatchesAt text bytes 0 → length (remove_range text 0 (0 + length bytes)) + length bytes ≤ capacity
room-prefix text bytes capacity fits found =
    let counted = ap length found.parts ∙ length-append found.front (bytes ++ found.rest) in
    let both = length-append bytes found.rest in
    grind (arith, common_steps)

-- there is room for a removed suffix
pub room-suffix : (text bytes : List ℕ) (capacity : ℕ) → length text ≤ capacity → EndsWith text bytes → length (take (length text - length bytes) text) + length bytes ≤ capacity
room-suffix text bytes capacity fits ends =
    let counted = ap length ends.1 ∙ length-append ends.0 bytes in
    grind (arith, common_steps)
