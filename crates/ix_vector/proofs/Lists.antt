-- Lemmas on lists with an item moved to the end, and on overwritten lists.
use Rattle.std.proofs.Common.{◌≡◌, ℕ, zero, suc, ◌-◌, ◌<◌, ◌≤◌, List, [], ◌∷◌, ◌++◌, length, length-set, take, drop, set, Some, refl, sym, ap, ◌∙◌, arith}
use native.Mathlib.Numerals.{unary_clauses}
use Rattle.std.specs.Prelude.{slice_get, slice_set}
use Rattle.std.proofs.Math.ListN.{get_or}
use Rattle.std.proofs.lemmas.List.{get_or-set_same}
use Rattle.std.proofs.lemmas.Option.{slice_get-get_or}
use Rattle.std.specs.List.{refill, swap}

module _ {T : Type 0} where
  pub slice_get-length : (xs : List T) (x : T) → slice_get (xs ++ x ∷ []) (length xs) ≡ Some x
  slice_get-length [] x = refl
  slice_get-length (y ∷ ys) x = slice_get-length ys x

  pub slice_get-move_to_end : (xs : List T) (i : ℕ) → i < length xs
      → slice_get ((take i xs ++ drop (suc i) xs) ++ take 1 (drop i xs)) (length xs - 1) ≡ slice_get xs i
  slice_get-move_to_end [] i lt = absurd (omega arith)
  slice_get-move_to_end (x ∷ xs) zero lt = simp unary_clauses (slice_get-length xs x)
  slice_get-move_to_end (x ∷ []) (suc i) lt = absurd (omega arith)
  slice_get-move_to_end (x ∷ (y ∷ ys)) (suc i) lt = simp unary_clauses (simp unary_clauses at (slice_get-move_to_end (y ∷ ys) i (omega arith)))

  pub take-refill : (n : ℕ) (xs ws : List T) → n ≤ length xs
      → take n (refill (length xs) xs ws) ≡ refill (length (take n xs)) (take n xs) ws
  take-refill zero xs ws within = refl
  take-refill (suc n) [] ws within = absurd (omega arith)
  take-refill (suc n) (x ∷ xs) [] within = ap (λ (ys : List T). x ∷ ys) (take-refill n xs [] (omega arith))
  take-refill (suc n) (x ∷ xs) (w ∷ ws) within = ap (λ (ys : List T). w ∷ ys) (take-refill n xs ws (omega arith))

  pub slice_get-swap : (xs : List T) (i j : ℕ) → i < length xs → j < length xs → slice_get (swap xs i j) j ≡ slice_get xs i
  slice_get-swap [] i j lt below = absurd (omega arith)
  slice_get-swap (d ∷ xs) i j lt below =
      let once = set (d ∷ xs) i (get_or (d ∷ xs) j d) in
      let long = length-set (d ∷ xs) i (get_or (d ∷ xs) j d) in
      let there = length-set once j (get_or (d ∷ xs) i d) in
      slice_get-get_or (set once j (get_or (d ∷ xs) i d)) j d (omega (arith, long, there, below))
      ∙ ap Some (get_or-set_same once j (get_or (d ∷ xs) i d) d (omega (arith, long, below)))
      ∙ sym (slice_get-get_or (d ∷ xs) i d lt)

  pub slice_set_same : (xs : List T) (i : ℕ) (x : T) → slice_get xs i ≡ Some x → slice_set xs i x ≡ xs
  slice_set_same [] i x at = refl
  slice_set_same (y ∷ ys) zero x at =
      let is : y ≡ x = cc in
      ap (λ z. z ∷ ys) (sym is)
  slice_set_same (y ∷ ys) (suc i) x at = ap (λ (zs : List T). y ∷ zs) (slice_set_same ys i x at)
