-- Lemmas on the sample rules that the laws of impls cite.
use Rattle.std.specs.Prelude.{ℕ, ◌≡◌, ◌-◌, ◌<◌, ◌≤◌, ◌⊎◌, List, length, take, max, reverse, get_or, false, refl}
use Rattle.std.specs.List.{suffix_len}
use Rattle.std.proofs.Common.{inl, inr, sym, ◌∙◌, ap, arith}
use Rattle.std.proofs.lemmas.Bool.{cases_lt}
use Rattle.std.proofs.lemmas.Grind.{common_steps}
use Rattle.std.proofs.lemmas.List.{take_all, get_or-reverse, length-reverse}
use Rattle.std.proofs.lemmas.List.Elements.{All-take}
use Rattle.std.proofs.lemmas.List.Sums.{prefix_len_stops, suffix_len-take_no}
use Rattle.ix_string.specs.Text.{IsText, IsTextByte}
use Rattle.ix_semantic_string.specs.SampleRules.{is_slash, without_trailing_slashes}

pub without_trailing_slashes-fits : (text : List ℕ) (capacity : ℕ) → length text ≤ capacity → length (without_trailing_slashes text) ≤ capacity
without_trailing_slashes-fits text capacity fits = grind (arith, common_steps)

pub IsText-without_trailing_slashes : (text : List ℕ) → IsText text → IsText (without_trailing_slashes text)
IsText-without_trailing_slashes text is = All-take (λ b. IsTextByte b) (max 1 (length text - suffix_len is_slash text)) text is

-- the rest ends with no slash, or is one byte
no_slash_at_end : (text : List ℕ) (n : ℕ) → n ≡ length text - suffix_len is_slash text → 0 < n → suffix_len is_slash (take n text) ≡ 0
no_slash_at_end text n is some =
    let long = length-reverse text in
    let place : length text - 1 - suffix_len is_slash text ≡ n - 1 = omega arith in
    let stops = prefix_len_stops is_slash (reverse text) 0 (omega arith) in
    let last : is_slash (get_or text (n - 1) 0) ≡ false =
    sym (ap is_slash (get_or-reverse text (suffix_len is_slash text) 0 (omega arith) ∙ ap (λ k. get_or text k 0) place)) ∙ stops in
    suffix_len-take_no is_slash text n 0 some (omega arith) last

without_trailing_slashes-longer : (text : List ℕ) (n : ℕ) → n ≡ length text - suffix_len is_slash text → 1 < n
    → without_trailing_slashes (take (max 1 n) text) ≡ take (max 1 n) text
without_trailing_slashes-longer text n is longer =
    let most : max 1 n ≡ n = grind (arith, common_steps) in
    let ends = no_slash_at_end text n is (omega arith) in
    rw most (take_all (max 1 (length (take n text) - suffix_len is_slash (take n text))) (take n text) (grind (arith, common_steps)))

without_trailing_slashes-shorter : (text : List ℕ) (n : ℕ) → n ≤ 1 → without_trailing_slashes (take (max 1 n) text) ≡ take (max 1 n) text
without_trailing_slashes-shorter text n short =
    let least : max 1 n ≡ 1 = grind (arith, common_steps) in
    rw least (take_all (max 1 (length (take 1 text) - suffix_len is_slash (take 1 text))) (take 1 text) (grind (arith, common_steps)))

pub without_trailing_slashes-twice : (text : List ℕ) → without_trailing_slashes (without_trailing_slashes text) ≡ without_trailing_slashes text
without_trailing_slashes-twice text = by (cases_lt 1 n)
  where
    n : ℕ
    n = length text - suffix_len is_slash text

    by : (1 < n) ⊎ (n ≤ 1) → without_trailing_slashes (without_trailing_slashes text) ≡ without_trailing_slashes text
    by (inl longer) = without_trailing_slashes-longer text n refl longer
    by (inr short) = without_trailing_slashes-shorter text n short
