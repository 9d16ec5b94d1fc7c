-- Lemmas on lists that are a front of one list before the rest of another, and on beginnings of lists.
use Rattle.std.proofs.Common.{◌≡◌, ℕ, zero, suc, ◌+◌, ◌<◌, ◌≤◌, List, [], ◌∷◌, ◌++◌, length, take, drop, get_or, set, refl, sym, ap, ◌∙◌, arith, add-one, length-append, append_assoc, append-nil, Some, All, subst, le_trans}
use Rattle.std.specs.Prelude.{slice_get}
use Rattle.std.proofs.Math.ListN.{drop_of_length-le}
use Rattle.std.proofs.lemmas.List.{get_or_push, get_or-drop}
use mathlib.Core.Option.{some, some-injective, some-ne-none}
use lib.ListN.{get_elem?}
use Rattle.ix_atomic.specs.History.{Begins}

module _ {T : Type 0} where
  pub Begins-refl : (xs : List T) → Begins xs xs
  Begins-refl xs = ([], sym (append-nil xs))

  pub Begins-append : (xs ys zs : List T) → Begins xs ys → Begins xs (ys ++ zs)
  Begins-append xs ys zs begins = (begins.0 ++ zs, ap (λ list. list ++ zs) begins.1 ∙ append_assoc xs begins.0 zs)

  pub length-push : (xs : List T) (x : T) → length (xs ++ x ∷ []) ≡ suc (length xs)
  length-push [] x = refl
  length-push (y ∷ ys) x = ap suc (length-push ys x)

  pub slice_get-push : (xs : List T) (x : T) (k : ℕ) → length xs ≡ k → slice_get (xs ++ x ∷ []) k ≡ Some x
  slice_get-push [] x zero e = refl
  slice_get-push [] x (suc k) e = absurd (omega arith)
  slice_get-push (y ∷ ys) x zero e = absurd (omega arith)
  slice_get-push (y ∷ ys) x (suc k) e = slice_get-push ys x k (omega arith)

  -- all items are set
  pub front-whole : (front old : List T) → length front ≡ length old → front ++ drop (length front) old ≡ front
  front-whole front old e = ap (λ list. front ++ list) (drop_of_length-le old (omega arith)) ∙ append-nil front

  pub set-tail : (x : T) (xs list : List T) (k : ℕ) (y : T) → list ≡ x ∷ xs → set list (k + 1) y ≡ x ∷ set xs k y
  set-tail x xs list k y e = λ i. set (e i) (add-one k i) y

pub get_or-tail : (list : List ℕ) (k : ℕ) → get_or list (k + 1) 0 ≡ get_or (drop 1 list) k 0
get_or-tail [] k = refl
get_or-tail (x ∷ xs) k = ap (λ j. get_or (x ∷ xs) j 0) (add-one k)

pub get_or-get_elem : (list : List ℕ) (i x : ℕ) → get_elem? list i ≡ some x → get_or list i 0 ≡ x
get_or-get_elem [] i x e = absurd (some-ne-none x (sym e))
get_or-get_elem (y ∷ ys) zero x e = some-injective y x e
get_or-get_elem (y ∷ ys) (suc i) x e = get_or-get_elem ys i x e

pub get_elem-tail : (list : List ℕ) (i x : ℕ) → get_elem? list (i + 1) ≡ some x → x ≡ get_or (drop 1 list) i 0
get_elem-tail list i x e = sym (get_or-get_elem list (i + 1) x e) ∙ get_or-tail list i

abbrev pub AreBelow : ℕ → List ℕ → Type 0
AreBelow bound list = (i : ℕ) → get_or list i 0 < bound

pub AreBelow-take : (bound count : ℕ) (list : List ℕ) → 0 < bound → AreBelow bound list → AreBelow bound (take count list)
AreBelow-take bound zero list above below i = above
AreBelow-take bound (suc count) [] above below i = above
AreBelow-take bound (suc count) (x ∷ xs) above below zero = below 0
AreBelow-take bound (suc count) (x ∷ xs) above below (suc i) = AreBelow-take bound count xs above (λ j. below (suc j)) i

pub AreBelow-drop : (bound count : ℕ) (list : List ℕ) → AreBelow bound list → AreBelow bound (drop count list)
AreBelow-drop bound count list below i = subst (λ n. n < bound) (sym (get_or-drop count list i 0)) (below (count + i))

pub AreBelow-append : (bound : ℕ) (xs ys : List ℕ) → AreBelow bound xs → AreBelow bound ys → AreBelow bound (xs ++ ys)
AreBelow-append bound [] ys of_xs of_ys i = of_ys i
AreBelow-append bound (x ∷ xs) ys of_xs of_ys zero = of_xs 0
AreBelow-append bound (x ∷ xs) ys of_xs of_ys (suc i) = AreBelow-append bound xs ys (λ j. of_xs (suc j)) of_ys i

pub All-weaken : (m n : ℕ) (list : List ℕ) → m ≤ n → All (λ x. x ≤ m) list → All (λ x. x ≤ n) list
All-weaken m n list up all k default inside = le_trans (all k default inside) up

pub All-last : (list : List ℕ) (x n : ℕ) → All (λ y. y ≤ n) (list ++ x ∷ []) → x ≤ n
All-last list x n all = let long = length-append list (x ∷ []) in subst (λ y. y ≤ n) (get_or_push list x 0 (length list) refl) (all (length list) 0 (omega arith))
