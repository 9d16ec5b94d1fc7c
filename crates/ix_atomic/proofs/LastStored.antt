-- The last of the values that steps give, and the byte that a place has after some acts.
use Rattle.std.proofs.Common.{◌≡◌, ℕ, List, [], ◌∷◌, ◌++◌, Option, Some, None, refl, ap, ◌∙◌}
use Rattle.std.specs.Option.{unwrap_or}
use Rattle.std.specs.List.{filter_map, cons_option, last_or, slice_get}
use Rattle.std.proofs.lemmas.List.Elements.{filter_map-append}
use Rattle.ix_atomic.specs.declared.byte_atomic.steps.plain.Act.{Act}
use Rattle.ix_atomic.specs.ByteActs.{stored_at, byte_after}
use Rattle.ix_atomic.specs.inner.StepTests.{next_byte}

module _ {A : Type 0} where
  pub last_or-append : (o : Option A) (xs ys : List A) → last_or o (xs ++ ys) ≡ last_or (last_or o xs) ys
  last_or-append o [] ys = refl
  last_or-append o (x ∷ xs) ys = last_or-append (Some x) xs ys

  last_or-one : (x : A) (o : Option A) → last_or (Some x) (cons_option o []) ≡ Some (unwrap_or o x)
  last_or-one x None = refl
  last_or-one x (Some y) = refl

pub byte_after-append : (first : List ℕ) (xs ys : List Act) (place : ℕ) → byte_after first (xs ++ ys) place ≡ last_or (byte_after first xs place) (filter_map (stored_at place) ys)
byte_after-append first xs ys place =
    ap (last_or (slice_get first place)) (filter_map-append (stored_at place) xs ys)
    ∙ last_or-append (slice_get first place) (filter_map (stored_at place) xs) (filter_map (stored_at place) ys)

pub byte_after-push : (first : List ℕ) (acts : List Act) (act : Act) (place byte : ℕ) → byte_after first acts place ≡ Some byte → byte_after first (acts ++ act ∷ []) place ≡ Some (next_byte place byte act)
byte_after-push first acts act place byte e =
    byte_after-append first acts (act ∷ []) place
    ∙ ap (λ o. last_or o (filter_map (stored_at place) (act ∷ []))) e
    ∙ last_or-one byte (stored_at place act)
