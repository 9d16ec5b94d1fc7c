-- Which items are kept if a closure is called at each, from the last to the first, and returns true for those to remove.
use Rattle.std.specs.Prelude.{ℕ, ◌≡◌, List, [], ◌∷◌, ◌++◌, reverse, map, not, Bool}
use Rattle.std.specs.List.{FoldsTo, items_where_true}
use Rattle.ix_string.specs.Text.{IsText, IsTextByte}

-- calls at the items xs, in their order, returned these results, and left the closure as last
abbrev pub ResultsAt : {F X : Type 0} → (F → X → Bool → F → Type 0) → F → List X → List Bool → F → Type 0
ResultsAt step f [] [] last = f ≡ last
ResultsAt step f [] (b ∷ bs) last = ⊥
ResultsAt step f (x ∷ xs) [] last = ⊥
ResultsAt {F} step f (x ∷ xs) (b ∷ bs) last = (next : F) × step f x b next × ResultsAt step next xs bs last

-- the items that are kept, in their order: the first result is that of the last item
abbrev pub retained_items : {X : Type 0} → List Bool → List X → List X
retained_items results xs = items_where_true (map not (reverse results)) xs

-- the closure was called at the items from the last to the first, and those for which it returned false are kept
abbrev pub Retains : {F X : Type 0} → (F → X → Bool → F → Type 0) → F → List X → List X → Type 0
Retains {F} step f xs kept = (results : List Bool) × (last : F) × ResultsAt step f (reverse xs) results last × (kept ≡ retained_items results xs)

-- calls at the bytes of a text, from the last to the first, may be made in turn, whatever they return
abbrev pub IsCallableAtText : {F : Type 0} → (F → ℕ → Bool → F → Type 0) → (F → ℕ → Type 0) → List ℕ → F → Type 0
IsCallableAtText {F} step pre text f = (bytes rest : List ℕ) (g : F) (byte : ℕ) → FoldsTo (λ p x q. (b : Bool) × step p x b q) f bytes g
    → reverse text ≡ bytes ++ byte ∷ rest → IsText bytes → IsTextByte byte → pre g byte
