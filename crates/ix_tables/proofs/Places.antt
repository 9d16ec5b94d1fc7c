-- Lemmas on a place that holds an item, in a row and in one of items that may have been moved out.
use Rattle.std.proofs.Common.{◌≡◌, ◌∙◌, ℕ, zero, suc, ◌<◌, List, [], ◌∷◌, length, map, set, replicate, Option, Some, None, IsSome, refl, sym, ap, subst, arith}
use Rattle.std.specs.Prelude.{slice_index_or}
use Rattle.std.specs.Option.{option_flatten}
use Rattle.std.proofs.Math.ListN.{get_or-map}
use Rattle.std.proofs.lemmas.List.{get_or_default, length-map, map-set}
use Rattle.ix_tables.specs.Places.{place_at, IsHeldAt}

module _ {T : Type 0} where
  -- a held place holds an item
  pub held_item : (place : Option T) → IsSome place → (x : T) × (place ≡ Some x)
  held_item (Some x) held = (x, refl)
  held_item None held = cc

  -- a place that is not held is empty
  pub none_of_not_some : (place : Option T) → (IsSome place → ⊥) → place ≡ None
  none_of_not_some None none = refl
  none_of_not_some (Some x) none = absurd (none refl)

  -- a held place is one of the row's
  pub held_within : (places : List (Option T)) (i : ℕ) → IsHeldAt places i → i < length places
  held_within [] i held = cc
  held_within (place ∷ places) zero held = omega arith
  held_within (place ∷ places) (suc i) held = omega (arith, held_within places i held)

  pub place_at_within : (places : List (Option T)) (i : ℕ) (x : T) → place_at places i ≡ Some x → i < length places
  place_at_within places i x at = held_within places i (subst (λ (place : Option T). IsSome place) (sym at) refl)

  -- a row is a repetition of what each of its places has
  pub all_alike : (x : T) (row : List T) (n : ℕ) → length row ≡ n → ((i : ℕ) (e : T) → i < n → slice_index_or row i e ≡ x) → row ≡ replicate n x
  all_alike x [] zero long at = refl
  all_alike x [] (suc n) long at = cc
  all_alike x (y ∷ row) zero long at = cc
  all_alike x (y ∷ row) (suc n) long at =
      ap (λ (first : T). first ∷ row) (at 0 x (omega arith))
      ∙ ap (λ (rest : List T). x ∷ rest) (all_alike x row n (omega (arith, long)) (λ i e below. at (suc i) e (omega (arith, below))))

  -- a row of no items shows empty places
  pub shown_vacant : (n : ℕ) → map (option_flatten {T = T}) (replicate n None) ≡ replicate n None
  shown_vacant zero = refl
  shown_vacant (suc n) = ap (λ (places : List (Option T)). None ∷ places) (shown_vacant n)

-- a row of items that may have been moved out, which shows these places
module _ {T : Type 0} (row : List (Option (Option T))) {places : List (Option T)} (shown : map option_flatten row ≡ places) where
  pub shown_length : length row ≡ length places
  shown_length = sym (length-map row option_flatten) ∙ ap length shown

  pub shown_set : (i : ℕ) (content : Option (Option T)) → map option_flatten (set row i content) ≡ set places i (option_flatten content)
  shown_set i content = map-set option_flatten row i content ∙ ap (λ (xs : List (Option T)). set xs i (option_flatten content)) shown

  module _ (i : ℕ) (held : IsHeldAt places i) where
    pub shown_within : i < length row
    shown_within = subst (λ (n : ℕ). i < n) (sym shown_length) (held_within places i held)

    module _ {content : Option (Option T)} (read : content ≡ slice_index_or row i content) where
      place_at-read : place_at places i ≡ option_flatten content
      place_at-read =
          subst (λ (xs : List (Option T)). place_at xs i ≡ option_flatten content) shown
          (get_or-map option_flatten row i None ∙ ap option_flatten (get_or_default row i None content shown_within ∙ sym read))

      -- what is read is an item that may have been moved out
      pub content_held : IsSome content
      content_held = each content (subst (λ (place : Option T). IsSome place) place_at-read held)
        where
          each : (content : Option (Option T)) → IsSome (option_flatten content) → IsSome content
          each (Some item) is_held = refl
          each None is_held = cc

      module _ {item : Option T} (is : content ≡ Some item) where
        -- and was not
        pub place_at-item : place_at places i ≡ item
        place_at-item = place_at-read ∙ ap option_flatten is

        pub item_held : IsSome item
        item_held = subst (λ (place : Option T). IsSome place) place_at-item held
