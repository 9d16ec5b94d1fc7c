-- Three values are decoded from a front and a rest.
use Rattle.std.proofs.Common.{◌≡◌, ◌↔◌, ℕ, List, ◌++◌, length, take, drop, Option, Some, None, sym, ap, ◌∙◌}
use Rattle.std.proofs.lemmas.List.{take-append-drop}
use Rattle.std.proofs.Math.Seq.{take-append_seam, drop-append_seam}
use Rattle.ix_atomic.specs.inner.Decoding.{triple_of}

module _ {A B C : Type 0} where
  triple_of-is : (first : Option A) (rest : Option (B × C)) (t : A × B × C) → (triple_of first rest ≡ Some t) ↔ ((first ≡ Some t.0) × (rest ≡ Some (t.1, t.2)))
  triple_of-is None rest t = (λ same. let none : None ≡ Some t = same in absurd (cc), λ both. let none : None ≡ Some t.0 = both.0 in absurd (cc))
  triple_of-is (Some first) None t = (λ same. let none : None ≡ Some t = same in absurd (cc), λ both. let none : None ≡ Some (t.1, t.2) = both.1 in absurd (cc))
  triple_of-is (Some first) (Some rest) t = (
    λ same. let all : (first, rest.0, rest.1) ≡ t = cc in (ap (λ (z : A × B × C). Some z.0) all, ap (λ (z : A × B × C). Some (z.1, z.2)) all),
    λ both. let one = both.0 in let two = both.1 in let same : first ≡ t.0 = cc in let same' : rest ≡ (t.1, t.2) = cc in λ i. Some (same i, (same' i).0, (same' i).1),
  )

  pub decodes_triple : (Is : A → Type 0) (Is' : B → Type 0) (Is'' : C → Type 0) (encoding : A → List ℕ) (rest_encoding : B × C → List ℕ) (n : ℕ) (bytes : List ℕ) (first : Option A) (rest : Option (B × C))
      → ((a : A) → Is a → length (encoding a) ≡ n) → ((a : A) → (first ≡ Some a) ↔ (Is a × (take n bytes ≡ encoding a)))
      → ((p : B × C) → (rest ≡ Some p) ↔ ((Is' p.0 × Is'' p.1) × (drop n bytes ≡ rest_encoding p)))
      → (t : A × B × C) → (triple_of first rest ≡ Some t) ↔ ((Is t.0 × Is' t.1 × Is'' t.2) × (bytes ≡ encoding t.0 ++ rest_encoding (t.1, t.2)))
  decodes_triple Is Is' Is'' encoding rest_encoding n bytes first rest long decodes decodes' t = (
    λ found. let both = (triple_of-is first rest t).0 found in let one = (decodes t.0).0 both.0 in let two = (decodes' (t.1, t.2)).0 both.1 in
        ((one.0, two.0.0, two.0.1), sym (take-append-drop n bytes) ∙ λ i. one.1 i ++ two.1 i),
    λ is. let count = long t.0 is.0.0 in
        let front : take n bytes ≡ encoding t.0 = (λ i. take (sym count i) (is.1 i)) ∙ take-append_seam (encoding t.0) (rest_encoding (t.1, t.2)) in
        let back : drop n bytes ≡ rest_encoding (t.1, t.2) = (λ i. drop (sym count i) (is.1 i)) ∙ drop-append_seam (encoding t.0) (rest_encoding (t.1, t.2)) in
        (triple_of-is first rest t).1 ((decodes t.0).1 (is.0.0, front), (decodes' (t.1, t.2)).1 ((is.0.1, is.0.2), back)),
  )
