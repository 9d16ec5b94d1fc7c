-- A range of keys, whose items come from both ends.
use Rattle.std.proofs.Common.{◌≡◌, ◌≢◌, ℕ, zero, suc, ◌+◌, ◌-◌, ◌<◌, ◌≤◌, inl, inr, List, [], ◌∷◌, ◌++◌, length, take, drop, set, get_or, Option, Some, None, refl, sym, ap, ◌∙◌, subst, arith}
use Rattle.std.specs.Prelude.{slice_range, is_some, if◌then◌else◌}
use Rattle.std.specs.Iterator.{MakesProgress, item_count}
use Rattle.std.proofs.lemmas.Bool.{cases_lt}
use Rattle.std.proofs.lemmas.List.{take_all, drop_more, append-nil, length-append, length-drop, length-take-le, length-set, append_cancel_left, append_cancel_right, drop-take, drop-set-lt, take-set-le}
use Rattle.std.proofs.Math.Seq.{take-append-add}
use Rattle.std.proofs.lemmas.List.Folds.{drop_split}
use Rattle.ix_tables.specs.Places.{place_at, IsEmptyAt}
use Rattle.ix_tables.proofs.Places.{place_at_within}
use Rattle.ix_slottable.specs.SlotTableState.{SlotTableState, held_count, entries_from}
use Rattle.ix_slottable.specs.SlotTableSteps.{slot_table_vacate, SlotTableRemove}
use Rattle.ix_slottable.specs.inner.KeyRange.{IsKeyRange}
use Rattle.ix_slottable.proofs.SlotTableCalls.{entries_from-append}

module _ {P : Type 0} where
  pub length-slice_range : (places : List P) (a b : ℕ) → a ≤ b → b ≤ length places → length (slice_range places a b) ≡ b - a
  length-slice_range places a b rises within =
      let rest = length-drop a places in length-take-le (b - a) (drop a places) (omega arith)

  pub slice_range-all : (places : List P) (a : ℕ) → slice_range places a (length places) ≡ drop a places
  slice_range-all places a = let rest = length-drop a places in take_all (length places - a) (drop a places) (omega arith)

  pub slice_range-one : (places : List P) (n : ℕ) (other : P) → n < length places → slice_range places n (n + 1) ≡ get_or places n other ∷ []
  slice_range-one places n other within =
      let one : n + 1 - n ≡ 1 = omega arith in
      ap (λ k. take k (drop n places)) one ∙ ap (take 1) (drop_more places n other within)

  -- a range is what is before a place in it, and what is from there on
  pub slice_range-split : (places : List P) (a b c : ℕ) → a ≤ b → b ≤ c → c ≤ length places → slice_range places a c ≡ slice_range places a b ++ slice_range places b c
  slice_range-split places a b c low high within =
      let long = length-slice_range places a b low (omega arith) in
      let all : c - a ≡ length (slice_range places a b) + (c - b) = omega arith in
      ap (λ n. take n (drop a places)) all
      ∙ ap (take (length (slice_range places a b) + (c - b))) (drop_split places a b low)
      ∙ take-append-add (slice_range places a b) (drop b places) (c - b)

  -- what a write leaves: the places before it, and those after it
  pub slice_range-set_before : (places : List P) (a b i : ℕ) (place : P) → i < a → slice_range (set places i place) a b ≡ slice_range places a b
  slice_range-set_before places a b i place below = ap (take (b - a)) (drop-set-lt a places i place below)

  pub slice_range-set_after : (places : List P) (a b i : ℕ) (place : P) → a ≤ b → b ≤ i → slice_range (set places i place) a b ≡ slice_range places a b
  slice_range-set_after places a b i place rises past =
      let all : b ≡ a + (b - a) = omega arith in
      let front : (row : List P) → slice_range row a b ≡ drop a (take b row) = λ row. sym (ap (λ n. drop a (take n row)) all ∙ drop-take a (b - a) row) in
      front (set places i place) ∙ ap (drop a) (take-set-le b places i place past) ∙ sym (front places)

-- items of places, each from the key of the first place
module _ {P X : Type 0} (items : ℕ → List P → List X) (append : (start : ℕ) (front back : List P) → items start (front ++ back) ≡ items start front ++ items (start + length front) back) (places : List P) where
  abbrev pub items_within : ℕ → ℕ → List X
  items_within a b = items a (slice_range places a b)

  pub items_within-split : (a b c : ℕ) → a ≤ b → b ≤ c → c ≤ length places → items_within a c ≡ items_within a b ++ items_within b c
  items_within-split a b c low high within =
      let long = length-slice_range places a b low (omega arith) in
      let start : a + length (slice_range places a b) ≡ b = omega arith in
      ap (items a) (slice_range-split places a b c low high within)
      ∙ append a (slice_range places a b) (slice_range places b c)
      ∙ ap (λ n. items_within a b ++ items n (slice_range places b c)) start

  pub items_within-all : (a : ℕ) → items_within a (length places) ≡ items a (drop a places)
  items_within-all a = ap (items a) (slice_range-all places a)

  items_within-front : (end : ℕ) → items_within 0 end ≡ items 0 (take end places)
  items_within-front end = let all : end - 0 ≡ end = omega arith in ap (λ n. items 0 (take n places)) all

  -- all keys are a range
  pub items_within-whole : (end : ℕ) → end ≡ length places → items_within 0 end ≡ items 0 places
  items_within-whole end is = ap (items_within 0) is ∙ items_within-all 0

  pub IsKeyRange-whole : (end left : ℕ) → end ≡ length places → left ≡ length (items 0 places) → IsKeyRange (length places) 0 end left (items_within 0 end)
  IsKeyRange-whole end left is counted =
      record { rises = omega arith; within = omega (arith, is); counted = counted ∙ sym (ap length (items_within-whole end is)) }

  -- a walk down from the end of a range passes over a place that has no item
  module _ (end key : ℕ) (below : key < end) (within : key < length places) (none : items_within key (key + 1) ≡ []) (some : 0 < length (items 0 (take end places))) (same : items 0 (take (key + 1) places) ≡ items 0 (take end places)) where
    passed : items 0 (take key places) ≡ items 0 (take end places)
    passed =
        sym (append-nil (items 0 (take key places)))
        ∙ ap (λ front. front ++ []) (sym (items_within-front key))
        ∙ ap (λ back. items_within 0 key ++ back) (sym none)
        ∙ sym (items_within-split 0 key (key + 1) (omega arith) (omega arith) (omega arith))
        ∙ items_within-front (key + 1)
        ∙ same

    pub down : (key - 1 < end) × (items 0 (take (key - 1 + 1) places) ≡ items 0 (take end places))
    down = go key below passed
      where
        go : (n : ℕ) → n < end → items 0 (take n places) ≡ items 0 (take end places) → (n - 1 < end) × (items 0 (take (n - 1 + 1) places) ≡ items 0 (take end places))
        go zero low is =
            let empty = ap length (append 0 [] []) ∙ length-append (items 0 []) (items (0 + 0) []) in
            let some_here = ap length is in absurd (omega (arith, empty, some_here))
        go (suc n) low is =
            let before : suc n - 1 + 1 ≡ suc n = omega arith in (omega arith, ap (λ m. items 0 (take m places)) before ∙ is)

  -- the last place of the range itself has none
  pub down_first : (end : ℕ) → end ≤ length places → items_within (end - 1) (end - 1 + 1) ≡ [] → 0 < length (items 0 (take end places))
      → (end - 1 - 1 < end) × (items 0 (take (end - 1 - 1 + 1) places) ≡ items 0 (take end places))
  down_first zero within none some = let empty = ap length (append 0 [] []) ∙ length-append (items 0 []) (items (0 + 0) []) in absurd (omega (arith, empty, some))
  down_first (suc n) within none some =
      let last : suc n - 1 + 1 ≡ suc n = omega arith in
      down (suc n) (suc n - 1) (omega arith) (omega arith) none some (ap (λ m. items 0 (take m places)) last)

  module _ (key end left : ℕ) (range : IsKeyRange (length places) key end left (items_within key end)) (more : left ≢ 0) where
    some : 0 < length (items_within key end)
    some = let counted = range.counted in omega (arith, more)

    -- there are items from the first key on, and before the last one
    pub items-from : 0 < length (items key (drop key places))
    items-from =
        let all = ap length (sym (items_within-all key) ∙ items_within-split key end (length places) range.rises range.within (omega arith)) in
        let both = length-append (items_within key end) (items_within end (length places)) in
        let here = some in omega (arith, all, both, here)

    pub items-before : 0 < length (items 0 (take end places))
    items-before =
        let all = ap length (sym (items_within-front end) ∙ items_within-split 0 key end (omega arith) range.rises range.within) in
        let both = length-append (items_within 0 key) (items_within key end) in
        let here = some in omega (arith, all, both, here)

    -- the first item of the range, which a walk from its first key finds
    module _ (n : ℕ) (x : X) (within : n < length places) (one : items_within n (n + 1) ≡ x ∷ []) (same : items n (drop n places) ≡ items key (drop key places)) where
      first_below : n < end
      first_below = elim (cases_lt n end) [
        | inl below ↦ below
        | inr past ↦
            let low = ap length (items_within-split key end (length places) range.rises range.within (omega arith)) in
            let low_both = length-append (items_within key end) (items_within end (length places)) in
            let high = ap length (items_within-split end n (length places) past (omega arith) (omega arith)) in
            let high_both = length-append (items_within end n) (items_within n (length places)) in
            let walked = ap length (items_within-all n ∙ same ∙ sym (items_within-all key)) in
            let here = some in absurd (omega (arith, low, low_both, high, high_both, walked, here))
      ]

      pub items_within-first : items_within key end ≡ x ∷ items_within (n + 1) end
      items_within-first =
          let below = first_below in
          let total = length places in
          let end_within = range.within in
          let from_key = items_within-split key end total range.rises end_within (omega arith) in
          let from_n = items_within-split n end total (omega arith) end_within (omega arith) in
          append_cancel_right (items_within key end) (items_within n end) (items_within end total) (sym from_key ∙ items_within-all key ∙ sym same ∙ sym (items_within-all n) ∙ from_n)
          ∙ items_within-split n (n + 1) end (omega arith) (omega arith) end_within
          ∙ ap (λ front. front ++ items_within (n + 1) end) one

      pub IsKeyRange-first : IsKeyRange (length places) (n + 1) end (left - 1) (items_within (n + 1) end)
      IsKeyRange-first =
          let below = first_below in
          let counted = range.counted in
          let one_less = ap length items_within-first in record { rises = omega arith; within = range.within; counted = omega (arith, counted, one_less) }

    -- the last item of the range, which a walk down from its end finds
    module _ (n : ℕ) (x : X) (below : n < end) (one : items_within n (n + 1) ≡ x ∷ []) (same : items 0 (take (n + 1) places) ≡ items 0 (take end places)) where
      last_from : key ≤ n
      last_from = elim (cases_lt n key) [
        | inl low ↦
            let end_within = range.within in
            let rises = range.rises in
            let to_key = ap length (items_within-split 0 (n + 1) key (omega arith) (omega arith) (omega arith)) in
            let to_key_both = length-append (items_within 0 (n + 1)) (items_within (n + 1) key) in
            let to_end = ap length (items_within-split 0 key end (omega arith) rises end_within) in
            let to_end_both = length-append (items_within 0 key) (items_within key end) in
            let walked = ap length (items_within-front (n + 1) ∙ same ∙ sym (items_within-front end)) in
            let here = some in absurd (omega (arith, to_key, to_key_both, to_end, to_end_both, walked, here))
        | inr from ↦ from
      ]

      pub items_within-last : items_within key end ≡ items_within key n ++ x ∷ []
      items_within-last =
          let from = last_from in
          let end_within = range.within in
          let to_end = items_within-split 0 key end (omega arith) range.rises end_within in
          let to_n = items_within-split 0 key (n + 1) (omega arith) (omega arith) (omega arith) in
          append_cancel_left (items_within 0 key) (items_within key end) (items_within key (n + 1)) (sym to_end ∙ items_within-front end ∙ sym same ∙ sym (items_within-front (n + 1)) ∙ to_n)
          ∙ items_within-split key n (n + 1) from (omega arith) (omega arith)
          ∙ ap (λ back. items_within key n ++ back) one

      pub IsKeyRange-last : IsKeyRange (length places) key n (left - 1) (items_within key n)
      IsKeyRange-last =
          let from = last_from in
          let end_within = range.within in
          let counted = range.counted in
          let one_less = ap length items_within-last in
          let both = length-append (items_within key n) (x ∷ []) in record { rises = from; within = omega arith; counted = omega (arith, counted, one_less, both) }

-- an iterator that gave its first item, or its last one, has fewer
module _ {A X : Type 0} (can : List X → Type 0) (before after : List X) (item : X) (given : A) (may : can after) where
  pub MakesProgress-first : before ≡ item ∷ after → MakesProgress can (item_count (λ rest. rest)) before (Some given) after
  MakesProgress-first is = let one_less = ap length is in record { on = λ finite. (may, tt, omega (arith, one_less)); keeps = may; rests = λ finite. tt }

  pub MakesProgress-last : before ≡ after ++ item ∷ [] → MakesProgress can (item_count (λ rest. rest)) before (Some given) after
  MakesProgress-last is =
      let one_less = ap length is ∙ length-append after (item ∷ []) in record { on = λ finite. (may, tt, omega (arith, one_less)); keeps = may; rests = λ finite. tt }

-- a free key has no entry
pub no_entry_of : {T : Type 0} (places : List (Option T)) (n : ℕ) → IsEmptyAt places n → entries_from n (slice_range places n (n + 1)) ≡ []
no_entry_of places n free = ap (entries_from n) (slice_range-one places n None free.0) ∙ ap (λ place. entries_from n (place ∷ [])) free.1

module _ {T : Type 0} (places : List (Option T)) (n : ℕ) (value : T) where
  -- the entry of one held place
  entry_of : place_at places n ≡ Some value → entries_from n (slice_range places n (n + 1)) ≡ (n, value) ∷ []
  entry_of at = ap (entries_from n) (slice_range-one places n None (place_at_within places n value at)) ∙ ap (λ place. entries_from n (place ∷ [])) at

  module _ (key end left : ℕ) where
    -- the first entry of a range, and the range that is left
    pub record FirstEntry : Type 0 where
      pub entries : entries_from key (slice_range places key end) ≡ (n, value) ∷ entries_from (n + 1) (slice_range places (n + 1) end)
      pub rest : IsKeyRange (length places) (n + 1) end (left - 1) (entries_from (n + 1) (slice_range places (n + 1) end))

    -- the last entry of a range, and the range that is left
    pub record LastEntry : Type 0 where
      pub entries : entries_from key (slice_range places key end) ≡ entries_from key (slice_range places key n) ++ (n, value) ∷ []
      pub rest : IsKeyRange (length places) key n (left - 1) (entries_from key (slice_range places key n))

    module _ (range : IsKeyRange (length places) key end left (entries_from key (slice_range places key end))) (more : left ≢ 0) (at : place_at places n ≡ Some value) where
      pub first_entry : entries_from n (drop n places) ≡ entries_from key (drop key places) → FirstEntry
      first_entry same =
          let within = place_at_within places n value at in record {
            entries = items_within-first entries_from entries_from-append places key end left range more n (n, value) within (entry_of at) same;
            rest = IsKeyRange-first entries_from entries_from-append places key end left range more n (n, value) within (entry_of at) same;
          }

      pub last_entry : n < end → entries_from 0 (take (n + 1) places) ≡ entries_from 0 (take end places) → LastEntry
      last_entry below same =
          record {
            entries = items_within-last entries_from entries_from-append places key end left range more n (n, value) below (entry_of at) same;
            rest = IsKeyRange-last entries_from entries_from-append places key end left range more n (n, value) below (entry_of at) same;
          }

-- a key of a range that is removed from the table
module _ {T : Type 0} (s new : SlotTableState T) (n : ℕ) (value : T) (step : SlotTableRemove s n new (Some value)) where
  vacated : new.values ≡ set s.values n None
  vacated =
      ap (λ (t : SlotTableState T). t.values) step.map
      ∙ ap (λ place. (if is_some place then slot_table_vacate s n else s).values) (sym step.value)

  one_less : held_count new ≡ held_count s - 1
  one_less = let count = step.count refl in omega (arith, count)

  same_length : length s.values ≡ length new.values
  same_length = sym (ap length vacated ∙ length-set s.values n None)

  module _ (key end : ℕ) (range : IsKeyRange (length s.values) key end (held_count s) (entries_from key (slice_range s.values key end))) where
    more : held_count s ≢ 0
    more none = let count = step.count refl in absurd (omega (arith, count, none))

    first_of : entries_from n (drop n s.values) ≡ entries_from key (drop key s.values) → FirstEntry s.values n value key end (held_count s)
    first_of same = first_entry s.values n value key end (held_count s) range more (sym step.value) same

    left_after : slice_range s.values (n + 1) end ≡ slice_range new.values (n + 1) end
    left_after = sym (ap (λ places. slice_range places (n + 1) end) vacated ∙ slice_range-set_before s.values (n + 1) end n None (omega arith))

    -- the first one
    pub taken_first : entries_from n (drop n s.values) ≡ entries_from key (drop key s.values)
        → entries_from key (slice_range s.values key end) ≡ (n, value) ∷ entries_from (n + 1) (slice_range new.values (n + 1) end)
    taken_first same = (first_of same).entries ∙ ap (λ places. (n, value) ∷ entries_from (n + 1) places) left_after

    pub IsKeyRange-taken_first : entries_from n (drop n s.values) ≡ entries_from key (drop key s.values)
        → IsKeyRange (length new.values) (n + 1) end (held_count new) (entries_from (n + 1) (slice_range new.values (n + 1) end))
    IsKeyRange-taken_first same =
        let rest = (first_of same).rest in record {
          rises = rest.rises;
          within = subst (λ capacity. end ≤ capacity) same_length rest.within;
          counted = one_less ∙ rest.counted ∙ ap (λ places. length (entries_from (n + 1) places)) left_after;
        }

    module _ (below : n < end) (same : entries_from 0 (take (n + 1) s.values) ≡ entries_from 0 (take end s.values)) where
      last_of : LastEntry s.values n value key end (held_count s)
      last_of = last_entry s.values n value key end (held_count s) range more (sym step.value) below same

      left_before : slice_range s.values key n ≡ slice_range new.values key n
      left_before =
          let from = last_of.rest.rises in
          sym (ap (λ places. slice_range places key n) vacated ∙ slice_range-set_after s.values key n n None from (omega arith))

      -- the last one
      pub taken_last : entries_from key (slice_range s.values key end) ≡ entries_from key (slice_range new.values key n) ++ (n, value) ∷ []
      taken_last = last_of.entries ∙ ap (λ places. entries_from key places ++ (n, value) ∷ []) left_before

      pub IsKeyRange-taken_last : IsKeyRange (length new.values) key n (held_count new) (entries_from key (slice_range new.values key n))
      IsKeyRange-taken_last =
          let rest = last_of.rest in record {
            rises = rest.rises;
            within = subst (λ capacity. n ≤ capacity) same_length rest.within;
            counted = one_less ∙ rest.counted ∙ ap (λ places. length (entries_from key places)) left_before;
          }
