-- A key that is looked for by its bytes.
use Rattle.std.proofs.Common.{◌≡◌, ℕ, zero, suc, ◌+◌, List, [], ◌∷◌, drop, Bool, true, cond, Option, Some, None, refl, sym, ap, ap₂, ◌∙◌}
use Rattle.std.specs.List.{find}
use Rattle.std.specs.Str.{bytes_eq}
use Rattle.ix_slottable.specs.SlotTableState.{SlotTableState, entries, entries_from}
use Rattle.ix_tables.specs.Places.{place_at}
use Rattle.ix_flatmap.specs.MapState.{AreEqualByBytes, has_bytes, map_entry}
use Rattle.ix_flatmap.specs.declared.map.pair.Pair.{Pair}

find-same : {X : Type 0} (p q : X → Bool) → ((x : X) → p x ≡ q x) → (xs : List X) → find p xs ≡ find q xs
find-same p q same [] = refl
find-same p q same (x ∷ xs) = ap₂ (λ b rest. cond b (Some x) rest) (same x) (find-same p q same xs)

-- the first place that is looked at has a value that passes
pub find-here : {T : Type 0} (p : ℕ × T → Bool) (key : ℕ) (places : List (Option T)) (i : ℕ) (value : T) → place_at places i ≡ Some value → p (key, value) ≡ true → find p (entries_from key (drop i places)) ≡ Some (key, value)
find-here p key [] i value at passes = absurd (cc)
find-here p key (None ∷ places) zero value at passes = absurd (cc)
find-here p key (Some first ∷ places) zero value at passes =
    let is : first ≡ value = cc in
    ap (λ x. find p ((key, x) ∷ entries_from (key + 1) places)) is ∙ ap (λ b. cond b (Some (key, value)) (find p (entries_from (key + 1) places))) passes
find-here p key (place ∷ places) (suc i) value at passes = find-here p key places i value at passes

-- what the bytes of a key find is what the key finds
pub map_entry-bytes : {K V : Type 0} (eq : K → K → Bool) (bytes : K → List ℕ) → AreEqualByBytes eq bytes → (s : SlotTableState (Pair K V)) (key : K) (query : List ℕ) → bytes key ≡ query → map_entry (has_bytes bytes) s query ≡ map_entry eq s key
map_entry-bytes {K} {V} eq bytes equal s key query is =
    find-same (λ (entry : ℕ × Pair K V). has_bytes bytes entry.1.key query) (λ entry. eq entry.1.key key) (λ entry. sym (equal entry.1.key key ∙ ap (bytes_eq (bytes entry.1.key)) is)) (entries s)
