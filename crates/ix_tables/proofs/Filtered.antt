-- Which items a call such as `retain` leaves.
use Rattle.std.proofs.Common.{◌≡◌, ◌<◌, zero, suc, inl, inr, List, [], ◌∷◌, ◌++◌, Bool, true, false, true≢false, length, Contains, filter, cond, refl, sym, ap, subst, ◌∙◌, arith}
use Rattle.std.proofs.lemmas.Bool.{cases_Bool}
use Rattle.std.proofs.lemmas.List.Elements.{filter_passes, All-filter, All-contains, All-contains_itself, Contains-append_cases, Contains-append_left, Contains-append_right}

module _ {T : Type 0} (test : T → Bool) where
  -- an item that is left was there, and passes the test
  pub Contains-filter : (items : List T) (item : T) → Contains (filter test items) item → Contains items item × (test item ≡ true)
  Contains-filter items item left = (
    All-contains (Contains items) (filter test items) item (All-filter test (Contains items) items (All-contains_itself items)) left,
    All-contains (λ x. test x ≡ true) (filter test items) item (filter_passes test items) left,
  )

  -- an item that fails the test is not left
  pub filter_leaves_out : (items left : List T) → left ≡ filter test items → (item : T) → test item ≡ false → ¬ (Contains left item)
  filter_leaves_out items left is item fails found =
      let passes : test item ≡ true = (Contains-filter items item (subst (λ (xs : List T). Contains xs item) is found)).1 in
      true≢false (sym passes ∙ fails)

  -- an item that passes the test is left
  pub filter_keeps : (items : List T) (item : T) → Contains items item → test item ≡ true → Contains (filter test items) item
  filter_keeps [] item (place, below, at) passes = absurd (omega (arith, below))
  filter_keeps (first ∷ items) item there passes = elim (Contains-append_cases (first ∷ []) items item there) [
    | inl here ↦
        let is : first ≡ item = one first item here in
        let first_passes : test first ≡ true = ap test is ∙ passes in
        subst (λ b. Contains (cond b (first ∷ filter test items) (filter test items)) item) (sym first_passes) (Contains-append_left (first ∷ []) (filter test items) item here)
    | inr later ↦ elim (cases_Bool (test first)) [
      | inl passing ↦ subst (λ b. Contains (cond b (first ∷ filter test items) (filter test items)) item) (sym passing) (Contains-append_right (first ∷ []) (filter test items) item (filter_keeps items item later passes))
      | inr failing ↦ subst (λ b. Contains (cond b (first ∷ filter test items) (filter test items)) item) (sym failing) (filter_keeps items item later passes)
    ]
  ]
    where
      one : (x y : T) → Contains (x ∷ []) y → x ≡ y
      one x y (zero, below, at) = at
      one x y (suc place, below, at) = absurd (omega (arith, below))
