-- Lists of places that rise, and their merge.
use Rattle.std.proofs.Common.{◌≡◌, ◌≢◌, ◌⊎◌, ℕ, zero, suc, ◌<◌, ◌≤◌, List, [], ◌∷◌, ◌++◌, length, get_or, nat_lt, refl, sym, subst, inl, inr, ⊎_elim, arith, ltb-true, All}
use Rattle.std.specs.List.{Contains}
use Rattle.std.proofs.Math.Nat.{eq-or-lt_of_le}
use Rattle.std.proofs.lemmas.Bool.{cond_both, ltb-false}
use Rattle.std.proofs.lemmas.List.Elements.{All-contains, Contains-get_or}
use Rattle.std.proofs.lemmas.List.Kept.{AllPairs-cons}
use Rattle.std.proofs.lemmas.List.Quantifiers.{all_pairs_push}
use Rattle.ix_atomic.specs.Writers.{IsRising, AreApart, places_insert, places_merge}

lt_from_ne : (m n : ℕ) → m ≤ n → m ≢ n → m < n
lt_from_ne m n least differ = ⊎_elim (λ (same : m ≡ n). absurd (differ same)) (λ (less : m < n). less) (eq-or-lt_of_le least)

pub no_place : (place : ℕ) → Contains [] place → ⊥
no_place place h = let inside = h.1 in absurd (omega arith)

first_place : (first : ℕ) (rest : List ℕ) → Contains (first ∷ rest) first
first_place first rest = (0, omega arith, refl)

later_place : (first place : ℕ) (rest : List ℕ) → Contains rest place → Contains (first ∷ rest) place
later_place first place rest h = let inside = h.1 in (suc h.0, omega arith, h.2)

either_place : (first place : ℕ) (rest : List ℕ) → Contains (first ∷ rest) place → (first ≡ place) ⊎ Contains rest place
either_place first place rest h = elim h.0 as (λ k. k < length (first ∷ rest) → get_or (first ∷ rest) k place ≡ place → (first ≡ place) ⊎ Contains rest place) [
  | zero ↦ λ _ is. inl is
  | suc k ↦ λ inside is. inr (k, omega (arith, inside), is)
] h.1 h.2

below_rest : (first : ℕ) (rest : List ℕ) → IsRising (first ∷ rest) → All (λ place. first < place) rest
below_rest first rest rising k d inside = rising 0 (suc k) d (omega arith) (omega (arith, inside))

rest_rises : (first : ℕ) (rest : List ℕ) → IsRising (first ∷ rest) → IsRising rest
rest_rises first rest rising i j d order inside = rising (suc i) (suc j) d (omega (arith, order)) (omega (arith, inside))

pub IsRising-nil : IsRising []
IsRising-nil i j d order inside = absurd (omega (arith, inside))

-- a greater place comes last
pub IsRising-push : (places : List ℕ) (place : ℕ) → IsRising places → All (λ earlier. earlier < place) places → IsRising (places ++ place ∷ [])
IsRising-push places place rising below = all_pairs_push (λ earlier later. earlier < later) places place rising (λ k d inside. below k d inside)

-- a list after an insert is one of two
insert-by : (first place : ℕ) (rest : List ℕ) (Is : List ℕ → Type 0) → (place < first → Is (place ∷ first ∷ rest)) → (first ≤ place → Is (first ∷ places_insert rest place)) → Is (places_insert (first ∷ rest) place)
insert-by first place rest Is before after = cond_both (nat_lt place first) (place ∷ first ∷ rest) (first ∷ places_insert rest place) Is
    (λ less. before (ltb-true place first less)) (λ not_less. after (ltb-false place first not_less))

insert-new : (places : List ℕ) (place : ℕ) → Contains (places_insert places place) place
insert-new [] place = first_place place []
insert-new (first ∷ rest) place = insert-by first place rest (λ list. Contains list place) (λ _. first_place place (first ∷ rest)) (λ _. later_place first place (places_insert rest place) (insert-new rest place))

insert-old : (places : List ℕ) (place other : ℕ) → Contains places other → Contains (places_insert places place) other
insert-old [] place other h = absurd (no_place other h)
insert-old (first ∷ rest) place other h = insert-by first place rest (λ list. Contains list other) (λ _. later_place place other (first ∷ rest) h)
    (λ _. ⊎_elim (λ (same : first ≡ other). subst (Contains (first ∷ places_insert rest place)) same (first_place first (places_insert rest place)))
    (λ (t : Contains rest other). later_place first other (places_insert rest place) (insert-old rest place other t)) (either_place first other rest h))

insert-cases : (places : List ℕ) (place other : ℕ) → Contains (places_insert places place) other → (place ≡ other) ⊎ Contains places other
insert-cases [] place other h = either_place place other [] h
insert-cases (first ∷ rest) place other has = insert-by first place rest (λ list. Contains list other → (place ≡ other) ⊎ Contains (first ∷ rest) other)
    (λ _ h. either_place place other (first ∷ rest) h)
    (λ _ h. ⊎_elim (λ (same : first ≡ other). inr (subst (Contains (first ∷ rest)) same (first_place first rest)))
    (λ (t : Contains (places_insert rest place) other). ⊎_elim (λ (same : place ≡ other). inl same) (λ (u : Contains rest other). inr (later_place first other rest u)) (insert-cases rest place other t))
    (either_place first other (places_insert rest place) h)) has

All-from : (P : ℕ → Type 0) (places : List ℕ) → ((place : ℕ) → Contains places place → P place) → All P places
All-from P places each k d inside = each (get_or places k d) (Contains-get_or places k d inside)

insert-rises : (places : List ℕ) (place : ℕ) → IsRising places → (Contains places place → ⊥) → IsRising (places_insert places place)
insert-rises [] place rising new = AllPairs-cons (λ earlier later. earlier < later) place [] (λ k d inside. absurd (omega (arith, inside))) IsRising-nil
insert-rises (first ∷ rest) place rising new = let above = below_rest first rest rising in let rest_rising = rest_rises first rest rising in
    insert-by first place rest IsRising
    (λ less. AllPairs-cons (λ earlier later. earlier < later) place (first ∷ rest)
    (All-from (λ other. place < other) (first ∷ rest) (λ other h. ⊎_elim (λ (same : first ≡ other). subst (λ other. place < other) same less)
    (λ (t : Contains rest other). let far = All-contains (λ other. first < other) rest other above t in omega (arith, less, far)) (either_place first other rest h))) rising)
    (λ least. AllPairs-cons (λ earlier later. earlier < later) first (places_insert rest place)
    (All-from (λ other. first < other) (places_insert rest place) (λ other h. ⊎_elim (λ (same : place ≡ other). subst (λ other. first < other) same (less_if_new least))
    (λ (t : Contains rest other). All-contains (λ other. first < other) rest other above t) (insert-cases rest place other h)))
    (insert-rises rest place rest_rising (λ h. new (later_place first place rest h))))
  where
    less_if_new : first ≤ place → first < place
    less_if_new least = lt_from_ne first place least (λ same. new (subst (Contains (first ∷ rest)) same (first_place first rest)))

-- what rises after an insert rose before it, and the place is new
insert-rose : (places : List ℕ) (place : ℕ) → IsRising (places_insert places place) → IsRising places × (Contains places place → ⊥)
insert-rose [] place rising = (IsRising-nil, no_place place)
insert-rose (first ∷ rest) place rose = insert-by first place rest (λ list. IsRising list → IsRising (first ∷ rest) × (Contains (first ∷ rest) place → ⊥))
    (λ _ rising. (rest_rises place (first ∷ rest) rising, λ h. let far = All-contains (λ other. place < other) (first ∷ rest) place (below_rest place (first ∷ rest) rising) h in omega (arith, far)))
    (λ _ rising. let above = below_rest first (places_insert rest place) rising in let t = insert-rose rest place (rest_rises first (places_insert rest place) rising) in
    let far : (other : ℕ) → Contains (places_insert rest place) other → first < other = λ other h. All-contains (λ other. first < other) (places_insert rest place) other above h in (
      AllPairs-cons (λ earlier later. earlier < later) first rest (All-from (λ other. first < other) rest (λ other h. far other (insert-old rest place other h))) t.0,
      λ h. ⊎_elim (λ (same : first ≡ place). let less = far place (insert-new rest place) in omega (arith, same, less)) (λ (u : Contains rest place). t.1 u) (either_place first place rest h),
    )) rose

pub merge-left : (places others : List ℕ) (place : ℕ) → Contains places place → Contains (places_merge places others) place
merge-left places [] place h = h
merge-left places (other ∷ others) place h = insert-old (places_merge places others) other place (merge-left places others place h)

pub merge-right : (places others : List ℕ) (place : ℕ) → Contains others place → Contains (places_merge places others) place
merge-right places [] place h = absurd (no_place place h)
merge-right places (other ∷ others) place h = ⊎_elim (λ (same : other ≡ place). subst (Contains (places_merge places (other ∷ others))) same (insert-new (places_merge places others) other))
    (λ (t : Contains others place). insert-old (places_merge places others) other place (merge-right places others place t)) (either_place other place others h)

pub merge-cases : (places others : List ℕ) (place : ℕ) → Contains (places_merge places others) place → Contains places place ⊎ Contains others place
merge-cases places [] place h = inl h
merge-cases places (other ∷ others) place h = ⊎_elim (λ (same : other ≡ place). inr (subst (Contains (other ∷ others)) same (first_place other others)))
    (λ (t : Contains (places_merge places others) place). ⊎_elim (λ (u : Contains places place). inl u) (λ (u : Contains others place). inr (later_place other place others u)) (merge-cases places others place t))
    (insert-cases (places_merge places others) other place h)

-- rising lists that have no place in common
pub merge-rises : (places others : List ℕ) → IsRising places → IsRising others → AreApart places others → IsRising (places_merge places others)
merge-rises places [] rising rising' apart = rising
merge-rises places (other ∷ others) rising rising' apart =
    insert-rises (places_merge places others) other (merge-rises places others rising (rest_rises other others rising') (λ place h h'. apart place h (later_place other place others h')))
    (λ h. ⊎_elim (λ (t : Contains places other). apart other t (first_place other others))
    (λ (t : Contains others other). let less = All-contains (λ place. other < place) others other (below_rest other others rising') t in omega (arith, less)) (merge-cases places others other h))

pub merge-apart : (places others : List ℕ) → IsRising (places_merge places others) → AreApart places others
merge-apart places [] rising place h h' = no_place place h'
merge-apart places (other ∷ others) rising place h h' = let t = insert-rose (places_merge places others) other rising in
    ⊎_elim (λ (same : other ≡ place). t.1 (merge-left places others other (subst (Contains places) (sym same) h)))
    (λ (u : Contains others place). merge-apart places others t.0 place h u) (either_place other place others h')
