-- Clones of slot maps.
use Rattle.std.specs.Prelude.{true}
use Rattle.std.proofs.Common.{◌≡◌, ℕ, ◌+◌, ◌≤◌, List, length, Option, Some, None, refl, sym, ap, ◌∙◌, subst, arith}
use Rattle.std.specs.Option.{option_flatten}
use Rattle.ix_slottable.specs.SlotTableState.{SlotTableState, value_at}
use Rattle.ix_slottable.specs.SlotTableSteps.{SlotTableInsertAt}
use Rattle.ix_tables.specs.Cloning.{AreEqualClones}
use Rattle.ix_slotmap.specs.Generations.{SlotMapState, is_retired}
use Rattle.ix_slottable.specs.SlotTableCopies.{IsCloneAt, SlotTableIsClone}
use Rattle.ix_slotmap.specs.inner.Words.{place_word, word_generations, HoldsValue, HasWords, MatchesWords}
use Rattle.ix_slottable.proofs.SlotTableCopies.{count_by-same, CopiesBelow, CopiesBelow-free, CopiesBelow-held, SlotTableIsClone-equal}
use Rattle.ix_slotmap.proofs.Words.{state_of}
use Rattle.ix_slotmap.proofs.WordedValues.{MatchesWords-all}

module _ {T : Type 0} (is_clone : T → T → Type 0) where
  -- a clone of a value, what is left of a retired place, and a free place
  pub clone_of_value : (content : Option (Option T)) (x y : T) → option_flatten content ≡ Some x → is_clone x y → IsCloneAt (IsCloneAt is_clone) content (Some (Some y))
  clone_of_value None x y at is = absurd (cc)
  clone_of_value (Some None) x y at is = absurd (cc)
  clone_of_value (Some (Some value)) x y at is = let same : value ≡ x = cc in subst (λ v. is_clone v y) (sym same) is

  pub clone_of_retired : (content : Option (Option T)) → content ≡ Some None → IsCloneAt (IsCloneAt is_clone) content (Some None)
  clone_of_retired content at = subst (λ c. IsCloneAt (IsCloneAt is_clone) c (Some None)) (sym at) tt

  pub clone_of_free : (content : Option (Option T)) → content ≡ None → IsCloneAt (IsCloneAt is_clone) content None
  clone_of_free content at = subst (λ c. IsCloneAt (IsCloneAt is_clone) c None) (sym at) tt

  -- one more place is copied
  pub CopiesBelow-content : (s now new : SlotTableState (Option T)) (number : ℕ) (content : Option T) → CopiesBelow (IsCloneAt is_clone) s number now → IsCloneAt (IsCloneAt is_clone) (value_at s number) (Some content)
      → SlotTableInsertAt now number content new true → CopiesBelow (IsCloneAt is_clone) s (number + 1) new
  CopiesBelow-content s now new number content copies is step = go (value_at s number) refl is
    where
      go : (was : Option (Option T)) → value_at s number ≡ was → IsCloneAt (IsCloneAt is_clone) was (Some content) → CopiesBelow (IsCloneAt is_clone) s (number + 1) new
      go None at is = absurd is
      go (Some old) at is = CopiesBelow-held (IsCloneAt is_clone) s now new number old content copies at is step

  pub CopiesBelow-nothing : (s now : SlotTableState (Option T)) (number : ℕ) → CopiesBelow (IsCloneAt is_clone) s number now → IsCloneAt (IsCloneAt is_clone) (value_at s number) None → CopiesBelow (IsCloneAt is_clone) s (number + 1) now
  CopiesBelow-nothing s now number copies is = go (value_at s number) refl is
    where
      go : (was : Option (Option T)) → value_at s number ≡ was → IsCloneAt (IsCloneAt is_clone) was None → CopiesBelow (IsCloneAt is_clone) s (number + 1) now
      go None at is = CopiesBelow-free (IsCloneAt is_clone) s now number copies at
      go (Some old) at is = absurd is

  held_clone : (content copy : Option (Option T)) → IsCloneAt (IsCloneAt is_clone) content copy → HoldsValue is_retired content → HoldsValue is_retired copy
  held_clone None None is held = held
  held_clone None (Some y) is held = absurd is
  held_clone (Some x) None is held = absurd is
  held_clone (Some None) (Some None) is held = held
  held_clone (Some None) (Some (Some y)) is held = absurd is
  held_clone (Some (Some x)) (Some None) is held = absurd is
  held_clone (Some (Some x)) (Some (Some y)) is held = (refl, refl)

  -- the words of a map say where the clones are that were made
  pub MatchesWords-copies : (s now : SlotTableState (Option T)) (words : List ℕ) (retired number : ℕ) → HasWords is_retired s words retired → CopiesBelow (IsCloneAt is_clone) s number now → number ≤ length s.values → MatchesWords is_retired now words number
  MatchesWords-copies s now words retired number has copies most =
      let all = MatchesWords-all is_retired s words retired has in
      record {
        within = let long = copies.capacity in omega (arith, long, most);
        worded = let long = has.lengths in omega (arith, long, most);
        held = λ place below odd. held_clone (value_at s place) (value_at now place) (copies.values place below) (all.held place (omega (arith, below, most)) odd);
      }

  same_word : (x y : Option (Option T)) → IsCloneAt (IsCloneAt is_clone) x y → (generation : ℕ) → place_word is_retired x generation ≡ place_word is_retired y generation
  same_word None None is generation = refl
  same_word None (Some y) is generation = absurd is
  same_word (Some x) None is generation = absurd is
  same_word (Some None) (Some None) is generation = refl
  same_word (Some None) (Some (Some y)) is generation = absurd is
  same_word (Some (Some x)) (Some None) is generation = absurd is
  same_word (Some (Some x)) (Some (Some y)) is generation = refl

  same_retired : (x y : Option (Option T)) → IsCloneAt (IsCloneAt is_clone) x y → is_retired y ≡ is_retired x
  same_retired None None is = refl
  same_retired None (Some y) is = absurd is
  same_retired (Some x) None is = absurd is
  same_retired (Some None) (Some None) is = refl
  same_retired (Some None) (Some (Some y)) is = absurd is
  same_retired (Some (Some x)) (Some None) is = absurd is
  same_retired (Some (Some x)) (Some (Some y)) is = refl

  -- the words of a map are those of its clone
  pub HasWords-clone : (s copy : SlotTableState (Option T)) (words copied : List ℕ) (retired : ℕ) → SlotTableIsClone (IsCloneAt is_clone) s copy → copied ≡ words → HasWords is_retired s words retired → HasWords is_retired copy copied retired
  HasWords-clone s copy words copied retired is same has = subst (λ ws. HasWords (is_retired {T = T}) copy ws retired) (sym same) (record {
    lengths = has.lengths ∙ sym is.capacity;
    each = λ place below.
        let of = has.each place (let long = is.capacity in omega (arith, below, long)) in
        (of.0, (of.1.0, of.1.1 ∙ same_word (value_at s place) (value_at copy place) (is.values place) of.0));
    counted = has.counted ∙ sym (count_by-same is_retired copy.values s.values is.capacity (λ place below. same_retired (value_at s place) (value_at copy place) (is.values place)));
  })

  equal_content : AreEqualClones is_clone → AreEqualClones (IsCloneAt is_clone)
  equal_content equal None None is = refl
  equal_content equal None (Some y) is = absurd is
  equal_content equal (Some x) None is = absurd is
  equal_content equal (Some x) (Some y) is = ap Some (equal x y is)

  -- contracts see a clone as the map itself, if clones equal their originals
  pub state_of_clone : (s : SlotMapState T) (copy : SlotTableState (Option T)) (copied : List ℕ) → AreEqualClones is_clone → SlotTableIsClone (IsCloneAt is_clone) s.slots copy → word_generations copied ≡ s.generations → state_of copy copied ≡ s
  state_of_clone s copy copied equal is same =
      ap (λ (u : SlotTableState (Option T)). let st : SlotMapState T = record { slots = u; generations = word_generations copied } in st)
      (SlotTableIsClone-equal (IsCloneAt is_clone) s.slots copy (equal_content equal) is)
      ∙ ap (λ (gs : List ℕ). let st : SlotMapState T = record { slots = s.slots; generations = gs } in st) same
