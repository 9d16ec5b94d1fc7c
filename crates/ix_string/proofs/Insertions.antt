-- Lemmas on items that are inserted into a buffer which grows by appending alone.
use Rattle.std.proofs.Common.{ℕ, ◌≡◌, ◌+◌, ◌-◌, ◌<◌, ◌≤◌, ◌∙◌, List, [], ◌∷◌, ◌++◌, ◌⊎◌, inl, inr, refl, length, take, drop, get_or, length-append, length-drop, append_assoc, min, slice_range, sym, ap, arith}
use Rattle.std.specs.List.{insert_slice}
use Rattle.std.proofs.lemmas.Bool.{cases_lt}
use Rattle.std.proofs.lemmas.List.{take_more, take_at, length-take-le, take-take, take-append-drop, take-append-le, drop_all, drop-append-le, drop_at, get_or-drop}
use Rattle.std.proofs.lemmas.Grind.{common_steps}
use Rattle.ix_tables.specs.Bounded.{Bounded, with_items}
use Rattle.ix_vector.specs.VectorSteps.{vec_extend}

module _ {X : Type 0} where
  -- a range that is one item longer
  slice_range-more : (xs : List X) (a i : ℕ) (d : X) → a ≤ i → i < length xs → slice_range xs a (i + 1) ≡ slice_range xs a i ++ get_or xs i d ∷ []
  slice_range-more xs a i d order lt =
      let longer : (i + 1) - a ≡ (i - a) + 1 = omega arith in
      let place : a + (i - a) ≡ i = omega arith in
      let counted : i - a < length (drop a xs) = omega (arith, length-drop a xs) in
      let read : get_or (drop a xs) (i - a) d ≡ get_or xs i d = get_or-drop a xs (i - a) d ∙ ap (λ (k : ℕ). get_or xs k d) place in
      ap (λ (k : ℕ). take k (drop a xs)) longer ∙ take_more (drop a xs) (i - a) d counted ∙ ap (λ (y : X). slice_range xs a i ++ y ∷ []) read

  -- one more of the own items is appended
  pub vec_extend-more : (old held : Bounded X) (a i : ℕ) (y d : X) → a ≤ i → i < length old.items → held ≡ vec_extend old (slice_range old.items a i) → y ≡ get_or old.items i d
      → with_items held (held.items ++ y ∷ []) ≡ vec_extend old (slice_range old.items a (i + 1))
  vec_extend-more old held a i y d order lt is read =
      let part = slice_range old.items a i in
      let longer : part ++ y ∷ [] ≡ slice_range old.items a (i + 1) = rw read (sym (slice_range-more old.items a i d order lt)) in
      ap (λ (h : Bounded X). with_items h (h.items ++ y ∷ [])) is ∙ ap (with_items old) (append_assoc old.items part (y ∷ []) ∙ ap (λ (r : List X). old.items ++ r) longer)

  -- the items from the gap on, if no new item was appended, and if every moved item was
  between-none : (xs back : List X) (i e : ℕ) → i ≤ e → e ≤ length xs → back ≡ [] → drop i (take e xs) ++ (back ++ drop e xs) ≡ back ++ drop i xs
  between-none xs back i e order within none =
      let counted : length (take e xs) ≡ e = length-take-le e xs within in
      rw none (sym (drop-append-le i (take e xs) (drop e xs) (omega arith)) ∙ ap (drop i) (take-append-drop e xs))

  between-all : (xs back : List X) (i e : ℕ) → e ≡ i → drop i (take e xs) ++ (back ++ drop e xs) ≡ back ++ drop i xs
  between-all xs back i e same =
      let short : length (take e xs) ≤ i = grind (arith, common_steps) in
      let none : drop i (take e xs) ≡ [] = drop_all i (take e xs) short in
      rw (none, same) refl

  -- if first and second make up bytes, and between, second and behind are second and rest, all of it is front, bytes and rest
  joined : (front first between second behind bytes rest : List X) → first ++ second ≡ bytes → between ++ (second ++ behind) ≡ second ++ rest
      → ((front ++ first) ++ between) ++ (second ++ behind) ≡ (front ++ bytes) ++ rest
  joined front first between second behind bytes rest whole is =
      append_assoc (front ++ first) between (second ++ behind) ∙ ap (λ (r : List X). (front ++ first) ++ r) is ∙ sym (append_assoc (front ++ first) second rest)
      ∙ ap (λ (r : List X). r ++ rest) (append_assoc front first second ∙ ap (λ (r : List X). front ++ r) whole)

  between : (xs bytes : List X) (i b e n : ℕ) → n ≡ length xs → i ≤ n → b ≡ min (length bytes) (n - i) → e ≡ n - b → (n - i < length bytes) ⊎ (length bytes ≤ n - i)
      → drop i (take e xs) ++ (drop b bytes ++ drop e xs) ≡ drop b bytes ++ drop i xs
  between xs bytes i b e n whole within least start (inl lt) =
      let all : b ≡ n - i = grind (arith, common_steps) in
      between-all xs (drop b bytes) i e (omega arith)
  between xs bytes i b e n whole within least start (inr le) =
      let none : b ≡ length bytes = grind (arith, common_steps) in
      between-none xs (drop b bytes) i e (omega arith) (omega arith) (drop_all b bytes (omega arith))

  -- the last new items and the last b own ones are appended, and then the first b new ones are inserted into the gap
  pub insert_slice-parts : (xs bytes : List X) (i b e n : ℕ) → n ≡ length xs → i ≤ n → b ≡ min (length bytes) (n - i) → e ≡ n - b
      → let buffer = (xs ++ drop b bytes) ++ slice_range (xs ++ drop b bytes) e n in
      insert_slice (take e buffer) i (take b bytes) ++ drop (e + b) buffer ≡ insert_slice xs i bytes
  insert_slice-parts xs bytes i b e n whole within least start =
      let back = drop b bytes in
      let longer = xs ++ back in
      let most : e ≤ length xs = omega arith in
      let order : i ≤ e = grind (arith, common_steps) in
      let counted : length (drop e xs) ≡ n - e = omega (arith, length-drop e xs) in
      let last : slice_range longer e n ≡ drop e xs = ap (take (n - e)) (drop-append-le e xs back most) ∙ take_at (drop e xs) back (n - e) counted in
      let room : e ≤ length longer = omega (arith, length-append xs back) in
      let front = take-append-le e longer (slice_range longer e n) room ∙ take-append-le e xs back most in
      let end : e + b ≡ n = grind (arith, common_steps) in
      let buffer = longer ++ slice_range longer e n in
      let behind : drop (e + b) buffer ≡ back ++ drop e xs =
      ap (λ (k : ℕ). drop k buffer) end ∙ ap (drop n) (append_assoc xs back (slice_range longer e n)) ∙ drop_at xs (back ++ slice_range longer e n) n (sym whole)
      ∙ ap (λ (r : List X). back ++ r) last in
      let gap = take-take i e xs order in
      let whole_bytes = take-append-drop b bytes in
      rw (front, behind, gap) (joined (take i xs) (take b bytes) (drop i (take e xs)) back (drop e xs) bytes (drop i xs) whole_bytes (between xs bytes i b e n whole within least start (cases_lt (n - i) (length bytes))))
