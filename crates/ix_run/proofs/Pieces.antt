-- The replies to an input that comes in pieces.
use Rattle.std.proofs.Common.{ℕ, ◌≡◌, ◌≤◌, ◌<◌, ◌+◌, ◌-◌, suc, List, [], ◌∷◌, ◌++◌, Option, Some, None, length, take, drop, get_or, nat_le, nat_eq, Bool, true, false, refl, sym, ap, ◌∙◌, append_assoc, append-nil, arith, cond, take-append-drop, IfSome, IfNone, ◌%◌, ◌*◌, ◌^◌, not, map, replicate, eqb, w8, take-take, true≢false}
use Rattle.std.proofs.lemmas.Grind.{common_steps}
use Rattle.std.proofs.lemmas.Bool.{eqb-true}
use Rattle.std.proofs.lemmas.List.{drop_more, length-take-le}
use Rattle.std.proofs.lemmas.Simd.{bitmask_splat, trailing_mask_l, run_in_chunk_fails, run_in_chunk_stops}
use Rattle.std.specs.List.{prefix_len}
use Rattle.std.proofs.lemmas.Slice.{take-put_mid}
use Rattle.std.proofs.Math.Seq.{take-append-add}
use borrow.Rule.Slice.PartMut.{put_mid}
use lib.Lanes.{zip2, mask_l, top}
use lib.Count.{count_trailing_zeros}
use Rattle.memchr.specs.Find.{IsFirstByte, is_byte}
use Rattle.ix_run.specs.Lines.{line_feed, IsOneLine, LimitedLine, limited_line}
use Rattle.ix_run.specs.inner.Input.{limited_line_append}
use Rattle.ix_run.specs.declared.run.devices.limits.TheConstants.{MAX_LINE_LEN}

-- no byte is a line feed, byte by byte
abbrev pub Lacks : List ℕ → Type 0
Lacks [] = Unit {0}
Lacks (b ∷ bytes) = (nat_eq b line_feed ≡ false) × Lacks bytes

pub not_true : (t : Bool) → (t ≡ true → ⊥) → t ≡ false
not_true true h = absurd (h refl)
not_true false h = refl

pub not_false : (t : Bool) → (t ≡ false → ⊥) → t ≡ true
not_false true h = refl
not_false false h = absurd (h refl)

pub Lacks-IsOneLine : (bytes : List ℕ) → IsOneLine bytes → Lacks bytes
Lacks-IsOneLine [] h = tt
Lacks-IsOneLine (b ∷ bytes) h =
    (not_true (nat_eq b line_feed) (λ e. h 0 b (omega arith) (eqb-true b line_feed e)), Lacks-IsOneLine bytes (λ k d l. h (suc k) d (omega (arith, l))))

length-append_long : (line bytes : List ℕ) → nat_le (length line) MAX_LINE_LEN ≡ false → nat_le (length (line ++ bytes)) MAX_LINE_LEN ≡ false
length-append_long line bytes p = grind (arith, common_steps)

limited_line_append-cond : (line : List ℕ) (t : Bool) → nat_le (length line) MAX_LINE_LEN ≡ t → (b : ℕ) (bytes : List ℕ) → limited_line_append (cond t (Some line) None) (b ∷ bytes) ≡ limited_line (line ++ b ∷ bytes)
limited_line_append-cond line true e b bytes = refl
limited_line_append-cond line false e b bytes = rw (length-append_long line (b ∷ bytes) e) refl

pub limited_line_append-nil : (line : LimitedLine) → limited_line_append line [] ≡ line
limited_line_append-nil None = refl
limited_line_append-nil (Some l) = refl

-- two pieces appended are one piece
pub limited_line_append-append : (line : LimitedLine) (a b : List ℕ) → limited_line_append (limited_line_append line a) b ≡ limited_line_append line (a ++ b)
limited_line_append-append None a b = refl
limited_line_append-append (Some l) [] b = refl
limited_line_append-append (Some l) (x ∷ xs) [] = limited_line_append-nil (limited_line (l ++ x ∷ xs)) ∙ ap (λ t. limited_line (l ++ x ∷ t)) (sym (append-nil xs))
limited_line_append-append (Some l) (x ∷ xs) (y ∷ ys) =
    limited_line_append-cond (l ++ x ∷ xs) (nat_le (length (l ++ x ∷ xs)) MAX_LINE_LEN) refl y ys ∙ ap limited_line (append_assoc l (x ∷ xs) (y ∷ ys))

-- what memchr returns at a line feed, and without one
IsFirstByte-Some : (xs : List ℕ) (i : ℕ) → IsFirstByte (is_byte 10) xs (Some i) → (i < length xs) × IsOneLine (take i xs) × (xs ≡ take i xs ++ line_feed ∷ drop (i + 1) xs)
IsFirstByte-Some xs i (first, here) =
    let high = first.high in
    let feed : get_or xs i 0 ≡ line_feed = eqb-true _ _ here in
    let low : length (take i xs) ≤ i = grind (arith, common_steps) in
    let cut : drop i xs ≡ line_feed ∷ drop (i + 1) xs = let d = drop_more xs i 0 high in d ∙ ap (λ b. b ∷ drop (i + 1) xs) feed in (
      high,
      λ k d l e. first.before k (omega arith) (omega (arith, l, low)) (let same : get_or xs k 0 ≡ line_feed = grind (arith, common_steps) in rw same refl),
      sym (take-append-drop i xs) ∙ ap (λ l. take i xs ++ l) cut,
    )

pub IsFirstByte-found : (xs : List ℕ) (r : Option ℕ) → IsFirstByte (is_byte 10) xs r → IfSome r (λ i. (i < length xs) × IsOneLine (take i xs) × (xs ≡ take i xs ++ line_feed ∷ drop (i + 1) xs))
IsFirstByte-found xs None h = tt
IsFirstByte-found xs (Some i) h = IsFirstByte-Some xs i h

pub IsFirstByte-none : (xs : List ℕ) (r : Option ℕ) → IsFirstByte (is_byte 10) xs r → IfNone r (IsOneLine xs)
IsFirstByte-none xs None h = λ k d l e. h k (omega arith) l (let same : get_or xs k 0 ≡ line_feed = grind (arith, common_steps) in rw same refl)
IsFirstByte-none xs (Some i) h = tt

stops-cons : (t : Bool) (n m l : ℕ) → (cond t 1 0 + 2 * n ≡ 0 → ⊥) → ((n ≡ 0 → ⊥) → m < l) → cond (not t) (1 + m) 0 < suc l
stops-cons true n m l some h = omega arith
stops-cons false n m l some h = omega (arith, h (λ e. some (omega (arith, e))))

-- where a bit is set, one of the lanes passes
stops : (p : ℕ → Bool) (xs : List ℕ) → (mask_l (map p xs) ≡ 0 → ⊥) → prefix_len (λ x. not (p x)) xs < length xs
stops p [] some = absurd (some refl)
stops p (x ∷ xs) some = stops-cons (p x) (mask_l (map p xs)) (prefix_len (λ y. not (p y)) xs) (length xs) some (stops p xs)

-- the place of the first lane of so many bytes that is a line feed
pub near_line_feed : (xs : List ℕ) (mask i : ℕ) → 32 ≤ length xs
    → mask ≡ mask_l (map (top 7) (zip2 (λ x y. cond (eqb x y) 255 0) (take 32 xs) (replicate 32 10))) % 2 ^ 64 → (mask ≡ 0 → ⊥) → i ≡ count_trailing_zeros 64 mask
    → IsFirstByte (is_byte 10) xs (Some i)
near_line_feed xs mask i room lanes some first =
    let is_feed : ℕ → Bool = λ x. eqb x 10 in
    let len : length (take 32 xs) ≡ 32 = length-take-le 32 xs room in
    let marked : mask ≡ mask_l (map is_feed (take 32 xs)) = lanes ∙ bitmask_splat w8 eqb (take 32 xs) 32 10 len (omega arith) in
    let set : mask_l (map is_feed (take 32 xs)) ≡ 0 → ⊥ = λ e. some (marked ∙ e) in
    let counted : i ≡ prefix_len (λ x. not (is_feed x)) (take 32 xs) =
    first ∙ ap (count_trailing_zeros 64) marked ∙ trailing_mask_l is_feed 64 (take 32 xs) (omega (arith, len)) (omega (arith, set)) in
    let here : 0 + i ≡ i = omega arith in
    let near : i < 32 = omega (arith, counted, len, stops is_feed (take 32 xs) set) in (
      record { low = omega arith; high = omega (arith, near, room); before = λ k l h p. true≢false (sym p ∙ run_in_chunk_fails is_feed xs 0 32 i 0 room counted k l (omega (arith, h))) },
      rw here at (run_in_chunk_stops is_feed xs 0 32 i 0 room counted near),
    )

-- a slice up to the end
pub take-drop_rest : (xs : List ℕ) (k : ℕ) → take (length xs - k) (drop k xs) ≡ drop k xs
take-drop_rest xs k = grind (arith, common_steps)

-- the first n items of those that are written at a, and the a items before them
pub take-put_first : (a k n : ℕ) (xs ys : List ℕ) → n ≤ length ys → a ≤ length xs → take (a + n) (put_mid a k xs ys) ≡ take a xs ++ take n ys
take-put_first a k n xs ys within room =
    sym (take-take (a + n) (a + length ys) (put_mid a k xs ys) (omega (arith, within)))
    ∙ (ap (take (a + n)) (take-put_mid a k xs ys (a + length ys) refl room)
    ∙ (ap (λ m. take (m + n) (take a xs ++ ys)) (sym (length-take-le a xs room)) ∙ take-append-add (take a xs) ys n))
