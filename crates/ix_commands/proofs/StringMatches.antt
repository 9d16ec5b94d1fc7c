-- Lemmas on the list of the indexes at which one text occurs in another.
use Rattle.std.proofs.Common.{ℕ, ◌≡◌, ◌+◌, ◌-◌, ◌<◌, ◌≤◌, zero, suc, Bool, true, false, List, [], ◌∷◌, ◌++◌, length, length-append, take, drop, refl, sym, ap, ◌∙◌, arith}
use Rattle.std.specs.Prelude.{Option, Some, None, ◌==◌, slice_get}
use Rattle.std.specs.List.{filter, starts_with, range_with_len}
use Rattle.std.proofs.lemmas.Bool.{false_from_ne_true}
use Rattle.std.proofs.lemmas.List.{take-append-drop, drop_at}
use Rattle.std.proofs.lemmas.List.Elements.{filter-append}
use Rattle.std.proofs.lemmas.Grind.{common_steps}
use Rattle.ix_vector.proofs.Lists.{slice_get-length}
use Rattle.ix_string.specs.Text.{MatchesAt, IsFirstMatch, IsLastMatch}
use Rattle.ix_string.proofs.Matches.{starts_with-MatchesAt}
use Rattle.ix_commands.specs.StringRun.{match_indexes}

-- the numbers from a on, in two parts
range-append : (a b n m t : ℕ) → t ≡ n + m → a + n ≡ b → range_with_len a t ≡ range_with_len a n ++ range_with_len b m
range-append a b zero m t count at = ap (range_with_len a) (omega (arith, count)) ∙ ap (λ (k : ℕ). range_with_len k m) (omega (arith, at))
range-append a b (suc n) m zero count at = absurd (omega (arith, count))
range-append a b (suc n) m (suc t) count at = ap (λ (r : List ℕ). a ∷ r) (range-append (a + 1) b n m t (omega (arith, count)) (omega (arith, at)))

module _ (p : ℕ → Bool) where
  -- no number passes
  filter-none : (a n : ℕ) → ((j : ℕ) → a ≤ j → j < a + n → p j ≡ false) → filter p (range_with_len a n) ≡ []
  filter-none a zero none = refl
  filter-none a (suc n) none = rw (none a (omega arith) (omega arith)) (filter-none (a + 1) n (λ j ge lt. none j (omega arith) (omega arith)))

  filter-pass : (i : ℕ) (xs : List ℕ) → p i ≡ true → filter p (i ∷ xs) ≡ i ∷ filter p xs
  filter-pass i xs passes = rw passes refl

  -- those before i that pass, i, and those after it that pass
  filter-at : (n i m : ℕ) → n ≡ i + (1 + m) → p i ≡ true
      → filter p (range_with_len 0 n) ≡ filter p (range_with_len 0 i) ++ i ∷ filter p (range_with_len (i + 1) m)
  filter-at n i m count passes =
      let parts : range_with_len 0 n ≡ range_with_len 0 i ++ i ∷ range_with_len (i + 1) m = range-append 0 i i (suc m) n (omega arith) (omega arith) in
      ap (filter p) parts ∙ filter-append p (range_with_len 0 i) (i ∷ range_with_len (i + 1) m)
      ∙ ap (λ (r : List ℕ). filter p (range_with_len 0 i) ++ r) (filter-pass i (range_with_len (i + 1) m) passes)

  -- the least number that passes is the first
  filter-first : (n i : ℕ) → i < n → p i ≡ true → ((j : ℕ) → j < i → p j ≡ false) → slice_get (filter p (range_with_len 0 n)) 0 ≡ Some i
  filter-first n i lt passes none =
      let before = filter-none 0 i (λ j ge below. none j (omega arith)) in
      let whole = filter-at n i (n - (i + 1)) (omega arith) passes in
      let cut = rw before at whole in
      rw cut refl

  -- the greatest number that passes is the last
  filter-last : (n i : ℕ) → i < n → p i ≡ true → ((j : ℕ) → i < j → j < n → p j ≡ false)
      → slice_get (filter p (range_with_len 0 n)) (length (filter p (range_with_len 0 n)) - 1) ≡ Some i
  filter-last n i lt passes none =
      let after = filter-none (i + 1) (n - (i + 1)) (λ j ge below. none j (omega arith) (omega arith)) in
      let whole = filter-at n i (n - (i + 1)) (omega arith) passes in
      let cut = rw after at whole in
      let front = filter p (range_with_len 0 i) in
      let len : length (front ++ i ∷ []) - 1 ≡ length front = omega (arith, length-append front (i ∷ [])) in
      rw (cut, len) (slice_get-length front i)

module _ (text needle : List ℕ) where
  -- the test for an occurrence at index i
  abbrev occurs : ℕ → Bool
  occurs i = starts_with ◌==◌ (drop i text) needle

  occurs-MatchesAt : (i : ℕ) → i ≤ length text → occurs i ≡ true → MatchesAt text needle i
  occurs-MatchesAt i le passes =
      let found = (starts_with-MatchesAt (drop i text) needle).0 passes in
      let none : found.front ≡ [] = grind (arith, common_steps, found.index) in
      let behind : drop i text ≡ needle ++ found.rest = rw none at found.parts in
      record {
        front = take i text;
        rest = found.rest;
        parts = sym (take-append-drop i text) ∙ ap (λ (r : List ℕ). take i text ++ r) behind;
        index = grind (arith, common_steps);
      }

  MatchesAt-occurs : (i : ℕ) → MatchesAt text needle i → occurs i ≡ true
  MatchesAt-occurs i found =
      let behind : drop i text ≡ needle ++ found.rest = rw found.parts (drop_at found.front (needle ++ found.rest) i found.index) in
      (starts_with-MatchesAt (drop i text) needle).1 (record { front = []; rest = found.rest; parts = behind; index = refl })

  MatchesAt-within : (i : ℕ) → MatchesAt text needle i → i < length text + 1
  MatchesAt-within i found =
      let counted = ap length found.parts ∙ length-append found.front (needle ++ found.rest) in
      let index = found.index in
      omega arith

  -- a search from the front gives the first of the indexes
  pub IsFirstMatch-match_indexes : (found : Option ℕ) → IsFirstMatch text needle found → found ≡ slice_get (match_indexes text needle) 0
  IsFirstMatch-match_indexes (Some i) is =
      let within = MatchesAt-within i is.0 in
      let none : (j : ℕ) → j < i → occurs j ≡ false = λ j lt. false_from_ne_true (occurs j) (λ passes. let least = is.1 j (occurs-MatchesAt j (omega arith) passes) in absurd (omega arith)) in
      sym (filter-first occurs (length text + 1) i within (MatchesAt-occurs i is.0) none)
  IsFirstMatch-match_indexes None is =
      let none : (j : ℕ) → 0 ≤ j → j < 0 + (length text + 1) → occurs j ≡ false = λ j ge lt. false_from_ne_true (occurs j) (λ passes. is j (occurs-MatchesAt j (omega arith) passes)) in
      rw (filter-none occurs 0 (length text + 1) none) refl

  -- a search from the end gives the last of the indexes
  pub IsLastMatch-match_indexes : (found : Option ℕ) → IsLastMatch text needle found
      → found ≡ slice_get (match_indexes text needle) (length (match_indexes text needle) - 1)
  IsLastMatch-match_indexes (Some i) is =
      let within = MatchesAt-within i is.0 in
      let none : (j : ℕ) → i < j → j < length text + 1 → occurs j ≡ false = λ j gt lt. false_from_ne_true (occurs j) (λ passes. let greatest = is.1 j (occurs-MatchesAt j (omega arith) passes) in absurd (omega arith)) in
      sym (filter-last occurs (length text + 1) i within (MatchesAt-occurs i is.0) none)
  IsLastMatch-match_indexes None is =
      let none : (j : ℕ) → 0 ≤ j → j < 0 + (length text + 1) → occurs j ≡ false = λ j ge lt. false_from_ne_true (occurs j) (λ passes. is j (occurs-MatchesAt j (omega arith) passes)) in
      rw (filter-none occurs 0 (length text + 1) none) refl
