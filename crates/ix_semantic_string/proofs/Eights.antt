-- Lemmas on bytes that are tested several at a time.
use Rattle.std.proofs.Common.{ℕ, zero, suc, ◌≡◌, ◌+◌, ◌*◌, ◌<◌, ◌≤◌, ◌∙◌, List, [], length, take, drop, get_or, ap, sym, ◌||◌, Bool, true, false, arith}
use Rattle.std.specs.List.{list_any}
use Rattle.std.proofs.Math.Seq.{take-add}
use Rattle.std.proofs.lemmas.List.{take_all, take-append-drop}
use Rattle.std.proofs.lemmas.List.Folds.{list_any-append, list_any_at}
use Rattle.std.specs.Simd.{first_chunks}

module _ {X : Type 0} (p : X → Bool) where
  -- one of the first k chunks of n has an item that passes if one of the first k * n items does
  list_any-first_chunks : (n k : ℕ) (xs : List X) → list_any (list_any p) (first_chunks n k xs) ≡ list_any p (take (k * n) xs)
  list_any-first_chunks n zero xs =
      let none : zero * n ≡ zero = omega arith in
      ap (λ (m : ℕ). list_any p (take m xs)) (sym none)
  list_any-first_chunks n (suc k) xs =
      let longer : suc k * n ≡ n + k * n = omega arith in
      ap (λ (rest : Bool). list_any p (take n xs) || rest) (list_any-first_chunks n k (drop n xs))
      ∙ sym (ap (λ (m : ℕ). list_any p (take m xs)) longer ∙ ap (list_any p) (take-add n (k * n) xs) ∙ list_any-append p (take n xs) (take (k * n) (drop n xs)))

  -- all items: those of the whole chunks, and the rest
  list_any-chunks : (n k : ℕ) (xs : List X) → (list_any (list_any p) (first_chunks n k xs) || list_any p (drop (k * n) xs)) ≡ list_any p xs
  list_any-chunks n k xs =
      ap (λ (found : Bool). found || list_any p (drop (k * n) xs)) (list_any-first_chunks n k xs)
      ∙ sym (list_any-append p (take (k * n) xs) (drop (k * n) xs)) ∙ ap (list_any p) (take-append-drop (k * n) xs)

  -- an item of the whole chunks passes
  pub list_any-chunk : (n k i : ℕ) (xs : List X) (chunks : List (List X)) → chunks ≡ first_chunks n k xs → i < length chunks → list_any p (get_or chunks i []) ≡ true → list_any p xs ≡ true
  list_any-chunk n k i xs chunks are lt passes =
      let found = list_any_at (list_any p) chunks i [] lt passes in
      sym (list_any-chunks n k xs) ∙ ap (λ (found : Bool). found || list_any p (drop (k * n) xs)) (ap (list_any (list_any p)) (sym are) ∙ found)

  -- no item of the whole chunks passes, so the rest settles the answer
  pub list_any-rest : (n k i : ℕ) (xs : List X) (chunks : List (List X)) → chunks ≡ first_chunks n k xs → length chunks ≤ i → list_any (list_any p) (take i chunks) ≡ false
      → list_any p (drop (k * n) xs) ≡ list_any p xs
  list_any-rest n k i xs chunks are le none =
      let whole = take_all i chunks le in
      sym (ap (λ (found : Bool). found || list_any p (drop (k * n) xs)) (ap (list_any (list_any p)) (sym are ∙ sym whole) ∙ none)) ∙ list_any-chunks n k xs
