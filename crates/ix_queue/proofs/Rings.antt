-- What a queue's steps on the places of its ring do to its items.
use Rattle.std.proofs.Common.{◌≡◌, ℕ, zero, suc, ◌+◌, ◌-◌, ◌<◌, ◌≤◌, ◌≢◌, inl, inr, List, [], ◌∷◌, ◌++◌, length, take, drop, set, map, slice_get, true, Option, Some, None, IsSome, refl, sym, ap, ap₂, ◌∙◌, subst, arith}
use Rattle.std.specs.Prelude.{replicate, if◌then◌else◌}
use Rattle.std.proofs.lemmas.Bool.{cases_lt, cases_eq}
use Rattle.std.proofs.lemmas.Bool.Decides.{nat_tests}
use Rattle.std.proofs.lemmas.List.{append-nil, append_assoc, length-append, length-drop, length-map, length-replicate, length-set, length-take-le, drop-append-le, drop-drop, drop-set-add, drop-set-lt, drop_all, take-set-le, take_all, take_more_set, set-append_left, set-append_right, set-set, set_at, get_or-append_right, get_or-drop, get_or-replicate, get_or-take, get_or_append_left, map-set, map_push, replicate_more, take_at, drop_at, take-append-drop, take-replicate, drop-replicate, replicate-append-replicate}
use Rattle.std.proofs.Math.Seq.{take-set-lt}
use Rattle.std.specs.List.{push}
use Rattle.ix_tables.specs.Bounded.{Bounded, bounded_new, with_items, vec_last, vec_pop}
use Rattle.ix_tables.specs.Places.{place_at, IsEmptyAt, IsHeldAt, IsVacant}
use Rattle.ix_queue.specs.QueueSteps.{is_too_long, queue_overflow, queue_pop, queue_set, queue_set_front}
use Rattle.ix_queue.specs.inner.Ring.{ring_place, ring_next, ring_row, row_items, IsRingOf, IsRing}

-- before the end of the row
ring_place_low : (start i capacity : ℕ) → i < capacity - start → ring_place start i capacity ≡ start + i
ring_place_low start i capacity low = grind (arith, nat_tests)

-- past the end of the row, round to its first place
ring_place_high : (start i capacity : ℕ) → capacity - start ≤ i → ring_place start i capacity ≡ i - (capacity - start)
ring_place_high start i capacity high = grind (arith, nat_tests)

ring_place_within : (start i capacity : ℕ) → start ≤ capacity → i < capacity → ring_place start i capacity < capacity
ring_place_within start i capacity within below = grind (arith, nat_tests)

ring_next_within : (place capacity : ℕ) → place < capacity → ring_next place capacity < capacity
ring_next_within place capacity below = grind (arith, nat_tests)

module _ {T : Type 0} where
  place_at-ring_place : (row : List (Option T)) (start i : ℕ) → start ≤ length row → i < length row → place_at row (ring_place start i (length row)) ≡ place_at (ring_row row start) i
  place_at-ring_place row start i within below =
      let len = length-drop start row in elim (cases_lt i (length row - start)) [
        | inl low ↦ ap (place_at row) (ring_place_low start i _ low) ∙ sym (get_or_append_left (drop start row) _ None i (omega arith) ∙ get_or-drop start row i None)
        | inr high ↦ ap (place_at row) (ring_place_high start i _ high) ∙ sym (get_or-append_right (drop start row) _ _ i None len high ∙ get_or-take start row _ None (omega arith))
      ]

  ring_row-set : (row : List (Option T)) (start i : ℕ) (v : Option T) → start ≤ length row → i < length row → ring_row (set row (ring_place start i (length row)) v) start ≡ set (ring_row row start) i v
  ring_row-set row start i v within below =
      let len = length-drop start row in elim (cases_lt i (length row - start)) [
        | inl low ↦
            ap (λ p. ring_row (set row p v) start) (ring_place_low start i _ low)
            ∙ ap₂ ◌++◌ (drop-set-add start row i v) (take-set-le start row (start + i) v (omega arith))
            ∙ sym (set-append_left (drop start row) _ i v (omega arith))
        | inr high ↦
            ap (λ p. ring_row (set row p v) start) (ring_place_high start i _ high)
            ∙ ap₂ ◌++◌ (drop-set-lt start row _ v (omega arith)) (take-set-lt start row _ v (omega arith))
            ∙ sym (set-append_right (drop start row) _ _ i v len high)
      ]

  ring_row-ring_next : (row : List (Option T)) (place : ℕ) → place < length row → ring_row row (ring_next place (length row)) ≡ ring_row row (place + 1)
  ring_row-ring_next row place below = elim (cases_eq (place + 1) (length row)) [
    | inl last ↦
        let first : ring_next place (length row) ≡ 0 = grind (arith, nat_tests) in
        ap (ring_row row) first ∙ append-nil row ∙ sym (ap₂ ◌++◌ (drop_all (place + 1) row (omega arith)) (take_all (place + 1) row (omega arith)))
    | inr other ↦
        let next : ring_next place (length row) ≡ place + 1 = grind (arith, nat_tests) in
        ap (ring_row row) next
  ]

  drop-ring_row : (row : List (Option T)) (start : ℕ) → start < length row → drop 1 (ring_row row start) ≡ drop (start + 1) row ++ take start row
  drop-ring_row row start below =
      drop-append-le 1 (drop start row) _ (omega (arith, length-drop start row)) ∙ ap (λ r. r ++ take start row) (drop-drop 1 start row)

  -- the place that is set is the last one of the ring
  ring_row-set-ring_next : (row : List (Option T)) (start : ℕ) (v : Option T) → start < length row → ring_row (set row start v) (ring_next start (length row)) ≡ drop 1 (ring_row row start) ++ v ∷ []
  ring_row-set-ring_next row start v below =
      let rows = length-set row start v in
      ap (λ capacity. ring_row (set row start v) (ring_next start capacity)) (sym rows)
      ∙ ring_row-ring_next (set row start v) start (omega arith)
      ∙ ap₂ ◌++◌ (drop-set-lt (start + 1) row start v (omega arith)) (take_more_set row start v below)
      ∙ sym (append_assoc (drop (start + 1) row) _ _)
      ∙ ap (λ r. r ++ v ∷ []) (sym (drop-ring_row row start below))

  IsVacant-from_ring_row : (row : List (Option T)) (start capacity : ℕ) → start ≤ capacity → length (drop start row) ≡ capacity - start → ring_row row start ≡ replicate capacity None → row ≡ replicate capacity None
  IsVacant-from_ring_row row start capacity within rest vacant =
      sym (take-append-drop start row)
      ∙ ap₂ ◌++◌ (sym (drop_at (drop start row) _ _ rest) ∙ ap (drop (capacity - start)) vacant) (sym (take_at _ (take start row) _ rest) ∙ ap (take (capacity - start)) vacant)
      ∙ ap₂ ◌++◌ (drop-replicate (capacity - start) capacity None) (take-replicate (capacity - start) capacity None (omega arith))
      ∙ replicate-append-replicate _ _ None
      ∙ ap (λ k. replicate k None) (omega arith)

  -- the items, and then empty places, up to the capacity
  abbrev row_of : List T → ℕ → List (Option T)
  row_of items capacity = map Some items ++ replicate (capacity - length items) None

  row_items-row_of : (items : List T) (empty : ℕ) → row_items (map Some items ++ replicate empty None) ≡ items
  row_items-row_of [] zero = refl
  row_items-row_of [] (suc empty) = row_items-row_of [] empty
  row_items-row_of (x ∷ items) empty = ap (λ r. x ∷ r) (row_items-row_of items empty)

  place_at-map_Some : (items : List T) (i : ℕ) → place_at (map Some items) i ≡ slice_get items i
  place_at-map_Some [] i = refl
  place_at-map_Some (x ∷ items) zero = refl
  place_at-map_Some (x ∷ items) (suc i) = place_at-map_Some items i

  place_at-row_of : (items : List T) (capacity i : ℕ) → i < length items → place_at (row_of items capacity) i ≡ slice_get items i
  place_at-row_of items capacity i below = get_or_append_left (map Some items) _ None i (omega (arith, length-map items Some)) ∙ place_at-map_Some items i

  -- the place after the items is empty
  place_at-row_of_end : (items : List T) (capacity : ℕ) → length items < capacity → place_at (row_of items capacity) (length items) ≡ None
  place_at-row_of_end items capacity room =
      get_or-append_right (map Some items) _ _ (length items) None (length-map items Some) (omega arith) ∙ get_or-replicate (capacity - length items) _ None None (omega arith)

  -- an item is put at the place after the items
  set-row_of_end : (items : List T) (capacity : ℕ) (x : T) → length items < capacity → set (row_of items capacity) (length items) (Some x) ≡ row_of (push items x) capacity
  set-row_of_end items capacity x room =
      let more = length-append items (x ∷ []) in
      let left : capacity - length items ≡ suc (capacity - suc (length items)) = omega arith in
      ap (λ k. set (map Some items ++ replicate k None) (length items) (Some x)) left
      ∙ set_at (map Some items) None _ (Some x) _ (length-map items Some)
      ∙ sym (append_assoc (map Some items) (Some x ∷ []) _)
      ∙ ap₂ (λ r k. r ++ replicate k None) (sym (map_push Some items x)) (omega arith)

  -- the first item is removed, and an empty place appended
  drop-row_of_none : (items : List T) (capacity : ℕ) → 0 < length items → length items ≤ capacity → drop 1 (row_of items capacity) ++ None ∷ [] ≡ row_of (drop 1 items) capacity
  drop-row_of_none [] capacity some fits = absurd (omega arith)
  drop-row_of_none (x ∷ items) capacity some fits =
      append_assoc (map Some items) _ _ ∙ ap (λ r. map Some items ++ r) (replicate_more _ None) ∙ ap (λ k. map Some items ++ replicate k None) (omega arith)

  -- the first item is removed, and another one appended
  drop-row_of_some : (items : List T) (capacity : ℕ) (y : T) → 0 < length items → length items ≡ capacity → drop 1 (row_of items capacity) ++ Some y ∷ [] ≡ row_of (drop 1 (push items y)) capacity
  drop-row_of_some [] capacity y some full = absurd (omega arith)
  drop-row_of_some (x ∷ items) capacity y some full =
      let more = length-append items (y ∷ []) in
      let none : capacity - suc (length items) ≡ 0 = omega arith in
      ap (λ k. (map Some items ++ replicate k None) ++ Some y ∷ []) none
      ∙ ap (λ r. r ++ Some y ∷ []) (append-nil (map Some items))
      ∙ sym (map_push Some items y)
      ∙ sym (append-nil _)
      ∙ ap (λ k. map Some (items ++ y ∷ []) ++ replicate k None) {x = 0} (omega arith)

  pub IsSome-slice_get : (items : List T) (i : ℕ) → i < length items → IsSome (slice_get items i)
  IsSome-slice_get [] i below = absurd (omega arith)
  IsSome-slice_get (x ∷ items) zero below = refl
  IsSome-slice_get (x ∷ items) (suc i) below = IsSome-slice_get items i (omega arith)

  -- the row is a ring, and contracts see this list in it
  pub record Shows (list : Bounded T) (row : List (Option T)) (start len : ℕ) : Type 0 where
    pub sound : IsRing row start len
    pub is : (let seen : Bounded T = record { items = row_items (ring_row row start); capacity = length row } in seen) ≡ list

  -- what a proof may use of such a row
  record Facts (list : Bounded T) (row : List (Option T)) (start len : ℕ) : Type 0 where
    ring : IsRingOf list.items row start
    rows : length row ≡ list.capacity
    counted : len ≡ length list.items

  facts_of : (list : Bounded T) (row : List (Option T)) (start len : ℕ) → Shows list row start len → Facts list row start len
  facts_of list row start len shows = record {
    ring = subst (λ (b : Bounded T). IsRingOf b.items row start) shows.is shows.sound.ring;
    rows = ap (λ (b : Bounded T). b.capacity) shows.is;
    counted = shows.sound.counted ∙ ap (λ (b : Bounded T). length b.items) shows.is;
  }

  -- the facts are enough, also at an equal row and start
  Shows-from : (list : Bounded T) (row row' : List (Option T)) (start start' len : ℕ) → row' ≡ row → start' ≡ start → Facts list row start len → Shows list row' start' len
  Shows-from list row row' start start' len same_row same_start facts =
      let held : row_items (ring_row row start) ≡ list.items = ap row_items facts.ring.in_turn ∙ row_items-row_of list.items _ in
      subst (λ r. Shows list r start' len) (sym same_row) (subst (λ s. Shows list row s len) (sym same_start) (record {
        sound = record {
          ring = subst (λ items. IsRingOf items row start) (sym held) facts.ring;
          counted = facts.counted ∙ ap length (sym held);
        };
        is = ap₂ (λ items capacity. let b : Bounded T = record { items = items; capacity = capacity } in b) held facts.rows;
      }))

  -- an empty row is a ring without items
  pub Shows-bounded_new : (capacity : ℕ) (row : List (Option T)) → row ≡ replicate capacity None → Shows (bounded_new capacity) row 0 0
  Shows-bounded_new capacity row is =
      let rows : length row ≡ capacity = ap length is ∙ length-replicate capacity None in
      Shows-from (bounded_new capacity) row row 0 0 0 refl refl (record {
        ring = record {
          within = omega arith;
          below = λ h. h;
          fits = omega arith;
          in_turn = append-nil row ∙ is ∙ ap (λ k. replicate k None) (omega arith);
        };
        rows = rows;
        counted = refl;
      })

  -- a ring without items is an empty row
  pub IsVacant-ring : (list : Bounded T) (row : List (Option T)) (start len : ℕ) → Shows list row start len → list.items ≡ [] → IsVacant row
  IsVacant-ring list row start len shows none =
      let ring = (facts_of list row start len shows).ring in
      IsVacant-from_ring_row row start (length row) ring.within (length-drop start row) (ring.in_turn ∙ ap (λ items. row_of items (length row)) none ∙ ap (λ k. replicate k None) (omega arith))

  -- the place of item i holds that item
  pub place_at-item : (list : Bounded T) (row : List (Option T)) (start len i capacity place : ℕ) → Shows list row start len → i < length list.items → capacity ≡ length row → place ≡ ring_place start i capacity → place_at row place ≡ slice_get list.items i
  place_at-item list row start len i capacity place shows below rows at =
      let ring = (facts_of list row start len shows).ring in
      let fits = ring.fits in
      ap (place_at row) (at ∙ ap (ring_place start i) rows)
      ∙ place_at-ring_place row start i ring.within (omega arith)
      ∙ ap (λ r. place_at r i) ring.in_turn
      ∙ place_at-row_of list.items _ i below

  pub IsHeldAt-item : (list : Bounded T) (row : List (Option T)) (start len i capacity place : ℕ) → Shows list row start len → i < length list.items → capacity ≡ length row → place ≡ ring_place start i capacity → IsHeldAt row place
  IsHeldAt-item list row start len i capacity place shows below rows at =
      subst IsSome (sym (place_at-item list row start len i capacity place shows below rows at)) (IsSome-slice_get list.items i below)

  -- the start of a ring that has items holds one
  pub IsHeldAt-front : (list : Bounded T) (row : List (Option T)) (start len : ℕ) → Shows list row start len → len ≢ 0 → IsHeldAt row start
  IsHeldAt-front list row start len shows some =
      let facts = facts_of list row start len shows in
      let fits = facts.ring.fits in
      let counted = facts.counted in
      let below = facts.ring.below (omega arith) in
      IsHeldAt-item list row start len 0 (length row) start shows (omega arith) refl (grind (arith, nat_tests))

  pub len_not_zero : (list : Bounded T) (row : List (Option T)) (start len : ℕ) → Shows list row start len → 0 < length list.items → len ≢ 0
  len_not_zero list row start len shows some =
      let counted = (facts_of list row start len shows).counted in
      omega arith

  -- the place after the last item is empty
  pub IsEmptyAt-end : (list : Bounded T) (row : List (Option T)) (start len capacity place : ℕ) → Shows list row start len → length list.items < list.capacity → capacity ≡ list.capacity → place ≡ ring_place start len capacity → IsEmptyAt row place
  IsEmptyAt-end list row start len capacity place shows room rows at =
      let facts = facts_of list row start len shows in
      let ring = facts.ring in
      let space : length list.items < length row = let same = facts.rows in omega arith in
      let there = at ∙ ap₂ (ring_place start) facts.counted (rows ∙ sym facts.rows) in (
        subst (λ p. p < length row) (sym there) (ring_place_within start _ (length row) ring.within space),
        ap (place_at row) there ∙ place_at-ring_place row start _ ring.within space ∙ ap (λ r. place_at r (length list.items)) ring.in_turn ∙ place_at-row_of_end list.items _ space,
      )

  -- an item is put at the place after the last one
  pub Shows-push : (list : Bounded T) (row row' : List (Option T)) (start len capacity place : ℕ) (x : T) → Shows list row start len → length list.items < list.capacity → capacity ≡ list.capacity → place ≡ ring_place start len capacity → row' ≡ set row place (Some x) → Shows (with_items list (push list.items x)) row' start (len + 1)
  Shows-push list row row' start len capacity place x shows room rows at put =
      let facts = facts_of list row start len shows in
      let ring = facts.ring in
      let same = facts.rows in
      let within = ring.within in
      let counted = facts.counted in
      let more = length-append list.items (x ∷ []) in
      let last = length list.items in
      let kept = length-set row (ring_place start last (length row)) (Some x) in
      let there = put ∙ ap (λ p. set row p (Some x)) (at ∙ ap₂ (ring_place start) counted (rows ∙ sym same)) in
      let steps = ring_row-set row start last (Some x) within (omega arith) ∙ ap (λ r. set r last (Some x)) ring.in_turn ∙ set-row_of_end list.items (length row) x (omega arith) in
      Shows-from (with_items list (push list.items x)) _ row' start start (len + 1) there refl (record {
        ring = record {
          within = omega arith;
          below = λ h. let below = ring.below (omega arith) in omega arith;
          fits = omega arith;
          in_turn = steps ∙ ap (row_of (push list.items x)) (sym kept);
        };
        rows = kept ∙ same;
        counted = omega arith;
      })

  -- the first place of a ring is set, and the ring starts at the next
  IsRingOf-set_next : (items : List T) (row : List (Option T)) (start : ℕ) (v : Option T) → start < length row → length items ≤ length row → drop 1 (ring_row row start) ++ v ∷ [] ≡ row_of items (length row) → IsRingOf items (set row start v) (ring_next start (length row))
  IsRingOf-set_next items row start v below fits is =
      let kept = length-set row start v in
      let next = ring_next_within start (length row) below in record {
        within = omega arith;
        below = λ _. omega arith;
        fits = omega arith;
        in_turn = ring_row-set-ring_next row start v below ∙ is ∙ ap (row_of items) (sym kept);
      }

  -- the front item is removed
  pub Shows-queue_pop : (list : Bounded T) (row row' : List (Option T)) (start start' len capacity : ℕ) → Shows list row start len → len ≢ 0 → row' ≡ set row start None → capacity ≡ length row → start' ≡ ring_next start capacity → Shows (queue_pop list) row' start' (len - 1)
  Shows-queue_pop list row row' start start' len capacity shows some taken rows at =
      let facts = facts_of list row start len shows in
      let ring = facts.ring in
      let fits = ring.fits in
      let counted = facts.counted in
      let kept = length-set row start None in
      let less = length-drop 1 list.items in
      let rest = ap (λ r. drop 1 r ++ None ∷ []) ring.in_turn ∙ drop-row_of_none list.items (length row) (omega arith) fits in
      Shows-from (queue_pop list) _ row' _ start' (len - 1) taken (at ∙ ap (ring_next start) rows) (record {
        ring = IsRingOf-set_next (drop 1 list.items) row start None (ring.below (omega arith)) (omega arith) rest;
        rows = kept ∙ facts.rows;
        counted = omega arith;
      })

  -- a ring whose item is taken out has room for one
  pub room-taken : (row row' : List (Option T)) (start start' len place : ℕ) → IsRing row start len → IsRing row' start' (len - 1) → len ≢ 0 → row' ≡ set row place None → length (row_items (ring_row row' start')) < length row'
  room-taken row row' start start' len place ring ring' some taken =
      let fits = ring.ring.fits in
      let counted = ring.counted in
      let counted' = ring'.counted in
      let kept = ap length taken ∙ length-set row place None in
      omega arith

  -- of a full list the front item is removed
  queue_overflow-full : (list : Bounded T) (y : T) → length list.items ≡ list.capacity → queue_overflow list y ≡ with_items list (drop 1 (push list.items y))
  queue_overflow-full list y full =
      let more = length-append list.items (y ∷ []) in
      let long : is_too_long list.capacity (push list.items y) ≡ true = grind (arith, nat_tests) in
      ap (λ b. with_items list (if b then drop 1 (push list.items y) else push list.items y)) long

  -- the front item of a full ring is taken, and another one is put at its place
  pub Shows-queue_overflow : (list : Bounded T) (row row_between row' : List (Option T)) (start start' len capacity : ℕ) (y : T) → Shows list row start len → capacity ≤ len → capacity ≢ 0 → capacity ≡ length row → row_between ≡ set row start None → row' ≡ set row_between start (Some y) → start' ≡ ring_next start capacity → Shows (queue_overflow list y) row' start' len
  Shows-queue_overflow list row row_between row' start start' len capacity y shows full some rows taken put at =
      let facts = facts_of list row start len shows in
      let ring = facts.ring in
      let fits = ring.fits in
      let same = facts.rows in
      let counted = facts.counted in
      let more = length-append list.items (y ∷ []) in
      let less = length-drop 1 (push list.items y) in
      let both = put ∙ ap (λ r. set r start (Some y)) taken ∙ set-set row start None (Some y) in
      let rest = ap (λ r. drop 1 r ++ Some y ∷ []) ring.in_turn ∙ drop-row_of_some list.items (length row) y (omega arith) (omega arith) in
      subst (λ b. Shows b row' start' len) (sym (queue_overflow-full list y (omega arith))) (Shows-from (with_items list (drop 1 (push list.items y))) _ row' _ start' len both (at ∙ ap (ring_next start) rows) (record {
        ring = IsRingOf-set_next (drop 1 (push list.items y)) row start (Some y) (ring.below (omega arith)) (omega arith) rest;
        rows = length-set row start (Some y) ∙ same;
        counted = omega arith;
      }))

  -- an item is replaced
  set-row_of : (items : List T) (capacity i : ℕ) (x : T) → i < length items → set (row_of items capacity) i (Some x) ≡ row_of (set items i x) capacity
  set-row_of items capacity i x below =
      let same = length-set items i x in
      set-append_left (map Some items) _ i (Some x) (omega (arith, length-map items Some))
      ∙ ap₂ (λ r n. r ++ replicate (capacity - n) None) (sym (map-set Some items i x)) (sym same)

  -- the item at an index is replaced
  pub Shows-queue_set : (list : Bounded T) (row row' : List (Option T)) (start len i capacity place : ℕ) (x : T) → Shows list row start len → i < length list.items → capacity ≡ length row → place ≡ ring_place start i capacity → row' ≡ set row place (Some x) → Shows (queue_set list i x) row' start len
  Shows-queue_set list row row' start len i capacity place x shows below rows at written =
      let facts = facts_of list row start len shows in
      let ring = facts.ring in
      let within = ring.within in
      let fits = ring.fits in
      let start_below = ring.below (omega arith) in
      let there = written ∙ ap (λ p. set row p (Some x)) (at ∙ ap (ring_place start i) rows) in
      let kept = length-set row (ring_place start i (length row)) (Some x) in
      let same = length-set list.items i x in
      let counted = facts.counted in
      let steps =
      ring_row-set row start i (Some x) within (omega arith)
      ∙ ap (λ r. set r i (Some x)) ring.in_turn
      ∙ set-row_of list.items (length row) i x below in
      Shows-from (queue_set list i x) _ row' start start len there refl (record {
        ring = record {
          within = omega arith;
          below = λ _. omega arith;
          fits = omega arith;
          in_turn = steps ∙ ap (row_of (set list.items i x)) (sym kept);
        };
        rows = kept ∙ facts.rows;
        counted = omega arith;
      })

  -- the front item is replaced
  pub Shows-queue_set_front : (list : Bounded T) (row row' : List (Option T)) (start len : ℕ) (x : T) → Shows list row start len → 0 < length list.items → row' ≡ set row start (Some x) → Shows (queue_set_front list x) row' start len
  Shows-queue_set_front list row row' start len x shows some written =
      let ring = (facts_of list row start len shows).ring in
      let fits = ring.fits in
      let below = ring.below (omega arith) in
      Shows-queue_set list row row' start len 0 (length row) start x shows some refl (grind (arith, nat_tests)) written

  -- the last of the items is removed, and the empty places after it are one more
  set-last_none : (items : List T) (last empty : ℕ) → length items ≡ suc last → set (map Some items ++ replicate empty None) last None ≡ map Some (take last items) ++ replicate (suc empty) None
  set-last_none [] last empty is = absurd (omega arith)
  set-last_none (x ∷ []) zero empty is = refl
  set-last_none (x ∷ y ∷ items) zero empty is = absurd (omega arith)
  set-last_none (x ∷ items) (suc last) empty is = ap (λ r. Some x ∷ r) (set-last_none items last empty (omega arith))

  module _ (list : Bounded T) (row : List (Option T)) (start len capacity place : ℕ) (shows : Shows list row start len) (some : len ≢ 0) (rows : capacity ≡ length row) (at : place ≡ ring_place start (len - 1) capacity) where
    -- the place of the last item holds that item
    pub place_at-back : place_at row place ≡ vec_last list
    place_at-back =
        let counted = (facts_of list row start len shows).counted in
        place_at-item list row start len (len - 1) capacity place shows (omega arith) rows at ∙ ap (λ n. slice_get list.items (n - 1)) counted

    pub IsHeldAt-back : IsHeldAt row place
    IsHeldAt-back =
        let counted = (facts_of list row start len shows).counted in
        IsHeldAt-item list row start len (len - 1) capacity place shows (omega arith) rows at

    -- the back item is removed
    pub Shows-vec_pop : (row' : List (Option T)) → row' ≡ set row place None → Shows (vec_pop list) row' start (len - 1)
    Shows-vec_pop row' taken =
        let facts = facts_of list row start len shows in
        let ring = facts.ring in
        let within = ring.within in
        let fits = ring.fits in
        let counted = facts.counted in
        let last = length list.items - 1 in
        let start_below = ring.below (omega arith) in
        let there = taken ∙ ap (λ p. set row p None) (at ∙ ap₂ (λ n c. ring_place start (n - 1) c) counted rows) in
        let kept = length-set row (ring_place start last (length row)) None in
        let less : length (take last list.items) ≡ last = length-take-le last list.items (omega arith) in
        let one_more : suc (length row - length list.items) ≡ length row - length (take last list.items) = omega (arith, less) in
        let steps =
        ring_row-set row start last None within (omega arith)
        ∙ ap (λ r. set r last None) ring.in_turn
        ∙ set-last_none list.items last (length row - length list.items) (omega arith)
        ∙ ap (λ n. map Some (take last list.items) ++ replicate n None) one_more in
        Shows-from (vec_pop list) _ row' start start (len - 1) there refl (record {
          ring = record {
            within = omega (arith, kept, within);
            below = λ _. omega (arith, kept, start_below);
            fits = omega (arith, kept, less, fits);
            in_turn = steps ∙ ap (row_of (take last list.items)) (sym kept);
          };
          rows = kept ∙ facts.rows;
          counted = omega (arith, less, counted);
        })
