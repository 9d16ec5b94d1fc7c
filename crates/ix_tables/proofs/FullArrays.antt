-- Lemmas on the places of a full array, part of which is overwritten by way of a slice.
use Rattle.std.proofs.Common.{◌≡◌, ℕ, ◌-◌, ◌≤◌, List, ◌++◌, length, take, drop, refl, sym, arith}
use Rattle.std.specs.Prelude.{slice_range, slice_set, Result, OnOk}
use Rattle.std.specs.List.{AllZip, AppendsClones, refill, length_refill}
use Rattle.std.proofs.Math.ListN.{length-set}
use Rattle.std.proofs.lemmas.Grind.{common_steps}
use Rattle.std.proofs.lemmas.Result.{on_ok_weaker}
use Rattle.std.proofs.lemmas.Slice.{take-put_mid, take-put_mid_below, drop-put_mid, between-put_mid}
use borrow.Rule.Slice.PartMut.{put_mid}
use Rattle.ix_tables.proofs.Refilling.{refill-same_length}

module _ {T : Type 0} where
  pub refill-slice_set : (xs : List T) (i : ℕ) (x : T) → refill (length xs) xs (slice_set xs i x) ≡ slice_set xs i x
  refill-slice_set xs i x = refill-same_length xs (slice_set xs i x) (length-set xs i x)

  -- the places a..e are overwritten by ys
  module _ (xs ys : List T) (a e : ℕ) (order : a ≤ e) (bounds : e ≤ length xs) (same : length ys ≡ length (take (e - a) (drop a xs))) where
    length-overwritten : length ys ≡ e - a
    length-overwritten = grind (arith, common_steps)

    length-put_mid : length (put_mid a (e - a) xs ys) ≡ length xs
    length-put_mid = let part = length-overwritten in grind (arith, common_steps)

    pub length-refill : length (refill (length xs) xs (put_mid a (e - a) xs ys)) ≡ length xs
    length-refill = sym (length_refill (length xs) xs (put_mid a (e - a) xs ys) refl)

    pub take-refill : take a (refill (length xs) xs (put_mid a (e - a) xs ys)) ≡ take a xs
    take-refill =
        rw (refill-same_length xs (put_mid a (e - a) xs ys) length-put_mid) (take-put_mid_below a (e - a) xs ys a (omega arith) (omega arith))

    pub take-refill-end : take e (refill (length xs) xs (put_mid a (e - a) xs ys)) ≡ take a xs ++ ys
    take-refill-end =
        rw (refill-same_length xs (put_mid a (e - a) xs ys) length-put_mid) (take-put_mid a (e - a) xs ys e (omega (arith, length-overwritten)) (omega arith))

    pub between-refill : slice_range (refill (length xs) xs (put_mid a (e - a) xs ys)) a e ≡ ys
    between-refill =
        rw (refill-same_length xs (put_mid a (e - a) xs ys) length-put_mid) (between-put_mid a (e - a) xs ys e (omega (arith, order, bounds)) length-overwritten)

    pub drop-refill : drop e (refill (length xs) xs (put_mid a (e - a) xs ys)) ≡ drop e xs
    drop-refill =
        rw (refill-same_length xs (put_mid a (e - a) xs ys) length-put_mid) (drop-put_mid a (e - a) xs ys e (omega (arith, order)) (omega (arith, order, bounds)) length-overwritten)

    pub AppendsClones-refill : {E : Type 0} (clones : T → T → Type 0) (items : List T) (r : Result (Unit {0}) E) → OnOk r (AllZip clones items ys)
        → OnOk r (AppendsClones clones (take a xs) (take e (refill (length xs) xs (put_mid a (e - a) xs ys))) items)
    AppendsClones-refill clones items r = on_ok_weaker r (λ are. (ys, take-refill-end, are))
