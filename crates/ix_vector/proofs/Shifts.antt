-- Lists that are another one with its last item first, or its first item last.
use Rattle.std.proofs.Common.{◌≡◌, ℕ, zero, suc, ◌+◌, ◌-◌, ◌<◌, ◌≤◌, List, [], ◌++◌, length, take, drop, inl, inr, arith}
use Rattle.std.specs.Prelude.{slice_range}
use Rattle.std.specs.List.{remove_range}
use Rattle.std.proofs.Math.ListN.{get_or}
use Rattle.std.proofs.lemmas.Bool.{cases_lt}
use Rattle.std.proofs.lemmas.Grind.{common_steps}
use Rattle.std.proofs.lemmas.List.{ext_get_or, drop-drop, drop_all, take_rest}
use borrow.Rule.Slice.PartMut.{put_mid}

module _ {T : Type 0} where
  -- zs begins with x, the last item of xs, and goes on with the others
  pub is_last_first : (xs zs : List T) (x : T) → 0 < length xs → length zs ≡ length xs
      → get_or zs 0 x ≡ x → get_or xs (length xs - 1) x ≡ x
      → ((k : ℕ) → k < length xs - 1 → get_or zs (1 + k) x ≡ get_or xs k x)
      → zs ≡ drop (length xs - 1) xs ++ take (length xs - 1) xs
  is_last_first xs zs x some long first last others =
      ext_get_or x zs (drop (length xs - 1) xs ++ take (length xs - 1) xs) (grind (arith, common_steps)) at
    where
      at : (i : ℕ) → i < length zs → get_or zs i x ≡ get_or (drop (length xs - 1) xs ++ take (length xs - 1) xs) i x
      at zero lt = grind (arith, common_steps, first, last, long)
      at (suc k) lt = let other = others k (omega arith) in grind (arith, common_steps, other, long)

  -- zs ends with x, the first item of xs, after the others
  pub is_first_last : (xs zs : List T) (x : T) → 0 < length xs → length zs ≡ length xs
      → get_or zs (length xs - 1) x ≡ x → get_or xs 0 x ≡ x
      → ((k : ℕ) → k < length xs - 1 → get_or zs k x ≡ get_or xs (1 + k) x)
      → zs ≡ drop 1 xs ++ take 1 xs
  is_first_last xs zs x some long last first others =
      ext_get_or x zs (drop 1 xs ++ take 1 xs) (grind (arith, common_steps)) at
    where
      at : (i : ℕ) → i < length zs → get_or zs i x ≡ get_or (drop 1 xs ++ take 1 xs) i x
      at i lt = elim (cases_lt i (length xs - 1)) [
        | inl below ↦ let other = others i below in grind (arith, common_steps, other, long)
        | inr past ↦ let end : i ≡ length xs - 1 = omega arith in grind (arith, common_steps, first, last, long, end)
      ]

  append_last : (xs ys zs : List T) → xs ++ ((ys ++ zs) ++ []) ≡ (xs ++ ys) ++ zs
  append_last xs ys zs = grind (arith, common_steps)

  -- the part from i on, with its first item last, put back
  pub put_mid-first_last : (xs : List T) (i : ℕ) → i < length xs
      → put_mid i (length xs - i) xs (drop 1 (take (length xs - i) (drop i xs)) ++ take 1 (take (length xs - i) (drop i xs)))
      ≡ remove_range xs i (i + 1) ++ slice_range xs i (i + 1)
  put_mid-first_last xs i below =
      let long : length (drop i xs) ≤ length xs - i = grind (arith, common_steps) in
      let past = drop_all (length xs - i) (drop i xs) long in
      let one : i + 1 - i ≡ 1 = omega arith in
      rw (take_rest xs i, past, drop-drop 1 i xs, one) (append_last (take i xs) (drop (i + 1) xs) (take 1 (drop i xs)))
