-- Lemmas on a closure that is called at the items from the last to the first.
use Rattle.std.proofs.Common.{ℕ, ◌≡◌, ◌+◌, ◌-◌, ◌<◌, ◌≤◌, ◌∙◌, length, take, drop, set, get_or, arith, List, [], ◌∷◌, ◌++◌, Bool, true, false, refl, subst, sym, ap}
use Rattle.std.specs.Prelude.{reverse, map, not, if◌then◌else◌}
use Rattle.std.specs.List.{All, filter, items_where_true}
use Rattle.std.proofs.lemmas.List.{map-append, reverse-append, take-take, take_more, get_or-take, drop-set, drop_more}
use Rattle.std.proofs.lemmas.List.Elements.{All-nil, All-cons, All-drop}
use Rattle.ix_tables.specs.Calls.{Computes}
use Rattle.ix_string.specs.Retain.{ResultsAt, retained_items, Retains, IsCallableAtText}
use Rattle.ix_string.specs.Text.{IsText, IsTextByte}

module _ {F X : Type 0} (step : F → X → Bool → F → Type 0) where
  -- one more call, at the item x
  pub ResultsAt-push : (f : F) (xs : List X) (results : List Bool) (g : F) (x : X) (b : Bool) (h : F)
      → ResultsAt step f xs results g → step g x b h → ResultsAt step f (xs ++ x ∷ []) (results ++ b ∷ []) h
  ResultsAt-push f [] [] g x b h same called = (h, subst (λ (p : F). step p x b h) (sym same) called, refl)
  ResultsAt-push f [] (c ∷ cs) g x b h same called = absurd same
  ResultsAt-push f (y ∷ ys) [] g x b h same called = absurd same
  ResultsAt-push f (y ∷ ys) (c ∷ cs) g x b h (next, returned, rest) called = (next, returned, ResultsAt-push next ys cs g x b h rest called)

  -- one more item in front
  items_where_true-cons : (b : Bool) (x : X) (xs kept : List X) (results : List Bool) → kept ≡ items_where_true (map not results) xs
      → (if b then kept else x ∷ kept) ≡ items_where_true (map not (b ∷ results)) (x ∷ xs)
  items_where_true-cons true x xs kept results is = is
  items_where_true-cons false x xs kept results is = ap (λ (r : List X). x ∷ r) is

  -- one more call, at the item before the others
  pub Retains-more : (f : F) (x : X) (xs kept : List X) (results : List Bool) (g : F) (b : Bool) (h : F)
      → ResultsAt step f (reverse xs) results g → kept ≡ retained_items results xs → step g x b h
      → (more : List Bool) × ResultsAt step f (reverse (x ∷ xs)) more h × ((if b then kept else x ∷ kept) ≡ retained_items more (x ∷ xs))
  Retains-more f x xs kept results g b h calls is called =
      let pushed = ResultsAt-push f (reverse xs) results g x b h calls called in
      let order : reverse (x ∷ xs) ≡ reverse xs ++ x ∷ [] = reverse-append (x ∷ []) xs in
      let turned : reverse (results ++ b ∷ []) ≡ b ∷ reverse results = reverse-append results (b ∷ []) in
      let called_again : ResultsAt step f (reverse (x ∷ xs)) (results ++ b ∷ []) h = rw order pushed in
      (results ++ b ∷ [], called_again, rw turned (items_where_true-cons b x xs kept (reverse results) is))

-- a closure that tests each item, and stays as it was
module _ {F X : Type 0} (step : F → X → Bool → F → Type 0) (test : X → Bool) (f : F) (tests : Computes step f test) where
  -- the results are those of the test
  ResultsAt-map : (g : F) (xs : List X) (results : List Bool) (last : F) → g ≡ f → ResultsAt step g xs results last → results ≡ map test xs
  ResultsAt-map g [] [] last same calls = refl
  ResultsAt-map g [] (b ∷ bs) last same calls = absurd calls
  ResultsAt-map g (x ∷ xs) [] last same calls = absurd calls
  ResultsAt-map g (x ∷ xs) (b ∷ bs) last same (next, called, rest) =
      let told = tests x b next (subst (λ (p : F). step p x b next) same called) in
      ap (λ (c : Bool). c ∷ bs) told.0 ∙ ap (λ (r : List Bool). test x ∷ r) (ResultsAt-map next xs bs last told.1 rest)

  items_where_true-tested : (b : Bool) (x : X) (xs : List X) → b ≡ test x → items_where_true (map not (map test xs)) xs ≡ filter (λ y. not (test y)) xs
      → items_where_true (not b ∷ map not (map test xs)) (x ∷ xs) ≡ filter (λ y. not (test y)) (x ∷ xs)
  items_where_true-tested true x xs is others = rw (sym is) others
  items_where_true-tested false x xs is others = rw (sym is) (ap (λ (r : List X). x ∷ r) others)

  -- the items for which the test is false
  items_where_true-filter : (xs : List X) → items_where_true (map not (map test xs)) xs ≡ filter (λ x. not (test x)) xs
  items_where_true-filter [] = refl
  items_where_true-filter (x ∷ xs) = items_where_true-tested (test x) x xs refl (items_where_true-filter xs)

  reverse-map-reverse : (xs : List X) → reverse (map test (reverse xs)) ≡ map test xs
  reverse-map-reverse [] = refl
  reverse-map-reverse (x ∷ xs) =
      let order : reverse (x ∷ xs) ≡ reverse xs ++ x ∷ [] = reverse-append (x ∷ []) xs in
      ap (λ (r : List X). reverse (map test r)) order ∙ ap reverse (map-append test (reverse xs) (x ∷ []))
      ∙ reverse-append (map test (reverse xs)) (test x ∷ []) ∙ ap (λ (r : List Bool). test x ∷ r) (reverse-map-reverse xs)

  Retains-filter : (xs kept : List X) → Retains step f xs kept → kept ≡ filter (λ x. not (test x)) xs
  Retains-filter xs kept (results, last, calls, is) =
      let all : reverse results ≡ map test xs = ap reverse (ResultsAt-map f (reverse xs) results last refl calls) ∙ reverse-map-reverse xs in
      is ∙ ap (λ (bs : List Bool). items_where_true (map not bs) xs) all ∙ items_where_true-filter xs

not_not : (b : Bool) → not (not b) ≡ b
not_not true = refl
not_not false = refl

pub Retains-kept : {F X : Type 0} (step : F → X → Bool → F → Type 0) (kept : X → Bool) (f : F) → ((x : X) (removed : Bool) (next : F) → step f x removed next → (not removed ≡ kept x) × (next ≡ f))
    → (xs ys : List X) → Retains step f xs ys → ys ≡ filter kept xs
Retains-kept step kept f says xs ys retains =
    Retains-filter step (λ x. not (kept x)) f (λ x removed next called. let told = says x removed next called in (sym (not_not removed) ∙ ap not told.0, told.1)) xs ys retains
    ∙ ap (λ test. filter test xs) (λ i x. not_not (kept x) i)

module _ {X : Type 0} where
  -- the items from index i on are item i and those after it
  pub drop-last : (xs : List X) (i n : ℕ) (d : X) → n ≡ i + 1 → n ≤ length xs → drop i xs ≡ get_or xs i d ∷ drop n xs
  drop-last xs i n d next le = rw next (drop_more xs i d (omega arith))

  -- rows with the same first n items have the same item i
  pub get_or-front : (buffer old : List X) (i n : ℕ) (d : X) → i < n → take n buffer ≡ take n old → get_or buffer i d ≡ get_or old i d
  get_or-front buffer old i n d lt same = sym (get_or-take n buffer i d lt) ∙ ap (λ (r : List X). get_or r i d) same ∙ get_or-take n old i d lt

  -- and the same first i items
  pub take-front : (buffer old : List X) (i n : ℕ) → i ≤ n → take n buffer ≡ take n old → take i buffer ≡ take i old
  take-front buffer old i n le same = sym (take-take i n buffer le) ∙ ap (take i) same ∙ take-take i n old le

  -- an item is written before the last ones
  pub drop-put : (buffer : List X) (s t : ℕ) (x : X) → t ≡ s + 1 → t ≤ length buffer → drop s (set buffer s x) ≡ x ∷ drop t buffer
  drop-put buffer s t x next le = rw next (drop-set buffer s x (omega arith))

  -- one more call, at the item before index n, which the buffer still has there
  pub Retains-back : {F : Type 0} (step : F → X → Bool → F → Type 0) (f : F) (buffer old : List X) (n : ℕ) (d : X) (results : List Bool) (g : F) (b : Bool) (h : F)
      → 0 < n → n ≤ length old → take n buffer ≡ take n old → ResultsAt step f (reverse (drop n old)) results g → step g (get_or buffer (n - 1) d) b h
      → (more : List Bool) × ResultsAt step f (reverse (drop (n - 1) old)) more h
      × ((if b then retained_items results (drop n old) else get_or buffer (n - 1) d ∷ retained_items results (drop n old)) ≡ retained_items more (drop (n - 1) old))
  Retains-back step f buffer old n d results g b h some within front calls called =
      let i = n - 1 in
      let behind : drop i old ≡ get_or buffer i d ∷ drop n old =
      drop-last old i n d (omega arith) within ∙ ap (λ (x : X). x ∷ drop n old) (sym (get_or-front buffer old i n d (omega arith) front)) in
      rw behind (Retains-more step f (get_or buffer i d) (drop n old) (retained_items results (drop n old)) results g b h calls refl called)

  -- what holds of all items holds of those that are kept
  All-items_where_true : (P : X → Type 0) (results : List Bool) (xs : List X) → All P xs → All P (items_where_true (map not results) xs)
  All-items_where_true P [] xs all = All-nil P
  All-items_where_true P (b ∷ bs) [] all = All-nil P
  All-items_where_true P (true ∷ bs) (x ∷ xs) all = All-items_where_true P bs xs (All-drop P 1 (x ∷ xs) all)
  All-items_where_true P (false ∷ bs) (x ∷ xs) all =
      All-cons P x (items_where_true (map not bs) xs) (all 0 x (omega arith)) (All-items_where_true P bs xs (All-drop P 1 (x ∷ xs) all))

  pub All-Retains : {F : Type 0} (P : X → Type 0) (step : F → X → Bool → F → Type 0) (f : F) (xs kept : List X) → Retains step f xs kept → All P xs → All P kept
  All-Retains P step f xs kept (results, last, calls, is) all = rw is (All-items_where_true P (reverse results) xs all)

-- from the last to the first, the first n items are item n - 1 and those before it
pub reverse-front : (xs : List ℕ) (n d : ℕ) → 0 < n → n ≤ length xs → reverse (take n xs) ≡ get_or xs (n - 1) d ∷ reverse (take (n - 1) xs)
reverse-front xs n d some within =
    let i = n - 1 in
    let one_more : i + 1 ≡ n = omega arith in
    ap (λ (k : ℕ). reverse (take k xs)) (sym one_more) ∙ ap (λ (front : List ℕ). reverse front) (take_more xs i d (omega arith))
    ∙ reverse-append (take i xs) (get_or xs i d ∷ [])

module _ {F : Type 0} {step : F → ℕ → Bool → F → Type 0} {pre : F → ℕ → Type 0} (text shorter : List ℕ) {f : F}
    (callable : IsCallableAtText step pre text f) (byte : ℕ) (is : IsTextByte byte) (ends : reverse text ≡ byte ∷ reverse shorter) where
  -- the closure may be called at a byte of a text
  pub IsCallableAtText-now : pre f byte
  IsCallableAtText-now = callable [] (reverse shorter) f byte refl ends (All-nil (λ b. IsTextByte b)) is

  -- and then again
  pub IsCallableAtText-on : (b : Bool) (g : F) → step f byte b g → IsCallableAtText step pre shorter g
  IsCallableAtText-on b g called bytes rest h next calls splits all =
      callable (byte ∷ bytes) rest h next (g, (b, called), calls) (ends ∙ ap (λ (more : List ℕ). byte ∷ more) splits) (All-cons (λ x. IsTextByte x) byte bytes is all)

-- byte i of a buffer that still has the first n bytes of a text
pub IsTextByte-front : (buffer old : List ℕ) (i n d : ℕ) → i < n → n ≤ length old → take n buffer ≡ take n old → IsText old → IsTextByte (get_or buffer i d)
IsTextByte-front buffer old i n d lt within front text =
    subst IsTextByte (sym (get_or-front buffer old i n d lt front)) (text i d (omega arith))
