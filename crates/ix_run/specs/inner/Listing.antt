-- Items that `show` prints one after the other.
use Rattle.std.specs.Prelude.{ℕ, ◌≡◌, List, [], ◌∷◌, ◌++◌, Option, MatchOption, Bool, true, false, codes}

-- an item's text, after a space unless it is the first
abbrev pub next_text : Bool → List ℕ → List ℕ
next_text true text = text
next_text false text = codes " " ++ text

-- each call of an iterator gives the item whose text is the first of those that are left, or none if none is left
abbrev pub YieldsTexts : {I T : Type 0} → (I → Option T → I → Type 0) → (T → List ℕ) → (I → List (List ℕ)) → Type 0
YieldsTexts {I} {T} next_gives text texts =
    (old : I) (given : Option T) (new : I) → next_gives old given new → MatchOption given (texts old ≡ []) (λ item. texts old ≡ text item ∷ texts new)
