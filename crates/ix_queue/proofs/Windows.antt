-- One sample more in a rolling window.
use Rattle.std.proofs.Common.{ℕ, ◌≡◌, ◌≤◌, ◌<◌, ◌+◌, ◌-◌, suc, List, [], ◌∷◌, ◌++◌, length, take, drop, get_or, nat_lt, Bool, true, false, refl, sym, ap, ◌∙◌, arith, cond}
use Rattle.std.proofs.lemmas.Grind.{common_steps}
use Rattle.std.proofs.lemmas.List.{drop-drop, drop-append-le}
use Rattle.std.proofs.Math.Seq.{take-suc}
use Rattle.std.specs.Prelude.{if◌then◌else◌}
use Rattle.std.specs.List.{push}

-- the items from i - size on, and the first of them removed if they are more than size
trimmed : (size i : ℕ) (ys : List ℕ) → length ys ≡ i + 1 → (t : Bool) → nat_lt size (length (drop (i - size) ys)) ≡ t
    → cond t (drop 1 (drop (i - size) ys)) (drop (i - size) ys) ≡ drop (i + 1 - size) ys
trimmed size i ys len true e =
    let long : size ≤ i = grind (arith, common_steps) in
    let next : i - size + 1 ≡ i + 1 - size = omega (arith, long) in
    drop-drop 1 (i - size) ys ∙ ap (λ k. drop k ys) next
trimmed size i ys len false e =
    let short : i < size = grind (arith, common_steps) in
    let same : i - size ≡ i + 1 - size = omega (arith, short) in
    ap (λ k. drop k ys) same

pub window_step : (size : ℕ) (xs : List ℕ) (i : ℕ) → i < length xs
    → (if nat_lt size (length (push (drop (i - size) (take i xs)) (get_or xs i 0))) then drop 1 (push (drop (i - size) (take i xs)) (get_or xs i 0)) else push (drop (i - size) (take i xs)) (get_or xs i 0))
    ≡ drop (i + 1 - size) (take (i + 1) xs)
window_step size xs i below =
    let next : i + 1 ≡ suc i = omega arith in
    let one_more : take (i + 1) xs ≡ take i xs ++ get_or xs i 0 ∷ [] = rw next (take-suc xs i 0 below) in
    let start : i - size ≤ length (take i xs) = grind (arith, common_steps) in
    let whole : push (drop (i - size) (take i xs)) (get_or xs i 0) ≡ drop (i - size) (take (i + 1) xs) =
    sym (drop-append-le (i - size) (take i xs) (get_or xs i 0 ∷ []) start) ∙ ap (drop (i - size)) (sym one_more) in
    let len : length (take (i + 1) xs) ≡ i + 1 = grind (arith, common_steps) in
    rw whole (trimmed size i (take (i + 1) xs) len _ refl)
