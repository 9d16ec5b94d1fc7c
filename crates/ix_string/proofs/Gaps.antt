-- Lemmas on a buffer in which a gap is opened or closed.
use Rattle.std.proofs.Common.{ℕ, ◌≡◌, ◌+◌, ◌≤◌, ◌∙◌, List, ◌++◌, length, take, drop, ap, sym, append_assoc, arith}
use Rattle.std.proofs.lemmas.List.{take-take, drop-take, drop-drop, drop_at, take_at, take-append-le, take-append-drop}
use Rattle.std.proofs.Math.Seq.{paste}
use borrow.Rule.Slice.PartMut.{put_mid}
use Rattle.std.proofs.lemmas.Grind.{common_steps}

module _ {T : Type 0} where
  parted : (xs ys zs ws : List T) → xs ++ ((ys ++ zs) ++ ws) ≡ (xs ++ ys) ++ (zs ++ ws)
  parted xs ys zs ws = grind (arith, common_steps)

  -- of the k items from index i on, the m after the first n are moved down to the front
  pub put_mid-closed : (buffer : List T) (i n m k len last : ℕ) → k ≡ n + m → len ≡ i + k → last ≡ i + m
      → put_mid i k buffer (paste (take k (drop i buffer)) 0 (drop n (take k (drop i buffer))) m)
      ≡ (take i (take len buffer) ++ drop (i + n) (take len buffer)) ++ drop last buffer
  put_mid-closed buffer i n m k len last part whole end =
      let front : take i (take len buffer) ≡ take i buffer = take-take i len buffer (omega arith) in
      let far : len ≡ (i + n) + m = omega arith in
      let back : drop (i + n) (take len buffer) ≡ take m (drop (i + n) buffer) = rw far (drop-take (i + n) m buffer) in
      let kept : drop n (take k (drop i buffer)) ≡ take m (drop (i + n) buffer) = rw part (drop-take n m (drop i buffer) ∙ ap (take m) (drop-drop n i buffer)) in
      let once : take m (take m (drop (i + n) buffer)) ≡ take m (drop (i + n) buffer) = take-take m m (drop (i + n) buffer) (omega arith) in
      let other : k ≡ m + n = omega arith in
      let cut : drop m (take k (drop i buffer)) ≡ take n (drop m (drop i buffer)) = rw other (drop-take m n (drop i buffer)) in
      let past : drop k (drop i buffer) ≡ drop n (drop m (drop i buffer)) = rw other (sym (drop-drop n m (drop i buffer))) in
      let rest : take n (drop m (drop i buffer)) ++ drop n (drop m (drop i buffer)) ≡ drop last buffer =
      take-append-drop n (drop m (drop i buffer)) ∙ drop-drop m i buffer ∙ ap (λ k. drop k buffer) (sym end) in
      let none : 0 + m ≡ m = omega arith in
      rw (front, back, kept, once, none, cut, past, parted (take i buffer) (take m (drop (i + n) buffer)) (take n (drop m (drop i buffer))) (drop n (drop m (drop i buffer))), rest)

  -- the part from index e on, where m items were overwritten
  drop-paste_at : (buffer : List T) (e m : ℕ) (ys : List T) → e ≤ length buffer → drop e (paste buffer e ys m) ≡ take m ys ++ drop (e + m) buffer
  drop-paste_at buffer e m ys le =
      let counted : length (take e buffer) ≡ e = grind (arith, common_steps) in
      rw append_assoc (drop_at (take e buffer) (take m ys ++ drop (e + m) buffer) e counted)

  -- m items from index i on are moved up by n, and new ones are written into the gap
  pub put_mid-opened : (buffer new : List T) (i n m k len last : ℕ) → len ≡ i + m → last ≡ len + n → k ≡ n → last ≤ length buffer
      → put_mid i k (paste buffer (i + n) (drop i buffer) m) new ≡ ((take i (take len buffer) ++ new) ++ drop i (take len buffer)) ++ drop last buffer
  put_mid-opened buffer new i n m k len last whole end same room =
      let moved = paste buffer (i + n) (drop i buffer) m in
      let counted : length (take (i + n) buffer) ≡ i + n = grind (arith, common_steps) in
      let before : take i moved ≡ take i (take (i + n) buffer) =
      rw append_assoc (take-append-le i (take (i + n) buffer) (take m (drop i buffer) ++ drop ((i + n) + m) buffer) (omega arith)) in
      let front : take i (take (i + n) buffer) ≡ take i buffer = take-take i (i + n) buffer (omega arith) in
      let short : take i (take len buffer) ≡ take i buffer = take-take i len buffer (omega arith) in
      let back : drop i (take len buffer) ≡ take m (drop i buffer) = rw whole (drop-take i m buffer) in
      let behind : drop (i + n) moved ≡ take m (drop i buffer) ++ drop ((i + n) + m) buffer = drop-paste_at buffer (i + n) m (drop i buffer) (omega arith) in
      let past : last ≡ (i + n) + m = omega arith in
      rw (same, drop-drop, before, front, short, back, behind, past, append_assoc, append_assoc)

  -- k items after the first e ones are overwritten
  pub put_mid-behind : (front buffer new : List T) (e k last : ℕ) → length front ≡ e → last ≡ e + k
      → put_mid e k (front ++ drop e buffer) new ≡ front ++ (new ++ drop last buffer)
  put_mid-behind front buffer new e k last counted end =
      let before : take e (front ++ drop e buffer) ≡ front = take_at front (drop e buffer) e counted in
      let behind : drop e (front ++ drop e buffer) ≡ drop e buffer = drop_at front (drop e buffer) e counted in
      rw (before, behind, drop-drop, end)
