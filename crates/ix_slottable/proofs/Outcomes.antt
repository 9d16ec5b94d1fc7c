-- What the calls of a closure leave at each place, if the closure stays as it was.
use Rattle.std.proofs.Common.{◌≡◌, ◌≢◌, ℕ, suc, ◌+◌, ◌-◌, ◌<◌, ◌≤◌, inl, inr, List, [], ◌∷◌, map, Bool, true, false, Option, Some, None, refl, sym, ap, ap₂, ◌∙◌, subst, arith}
use Rattle.std.specs.Prelude.{if◌then◌else◌, is_some, option_map}
use Rattle.std.specs.List.{FoldsTo}
use Rattle.std.specs.Borrow.{MutBor}
use Rattle.std.proofs.lemmas.Bool.{cases_eq}
use Rattle.std.proofs.lemmas.List.{get_or-set_same}
use Rattle.ix_tables.specs.Places.{place_at}
use Rattle.ix_tables.proofs.Places.{place_at_within}
use Rattle.ix_slottable.specs.SlotTableState.{SlotTableState, value_at, entries_from, entries}
use Rattle.ix_slottable.specs.SlotTableSteps.{slot_table_set, slot_table_vacate, slot_table_remove}
use Rattle.ix_slottable.specs.SlotTableCalls.{ComputesTest, ComputesValue, ChangesItem, RetainsItem, option_filter}
use Rattle.ix_slottable.proofs.SlotTableCalls.{Settles-slot_table_set, Settles-retained}

-- a container is seen as what `at` gives of each place; a place with a content is called with an item made of it
module _ {F S V T I : Type 0} (at : S → ℕ → V) (content : V → Option T) (item : ℕ → T → I) (R : F × S → I → F × S → Type 0) (f : F) (IsGood : ℕ → S → Type 0) (Becomes : ℕ → V → V → Type 0) where
  -- what the call with the content of this place leaves
  pub record LeavesOne (s : S) (place : ℕ) (q : F × S) : Type 0 where
    pub same : q.0 ≡ f
    pub good : IsGood (place + 1) q.1
    pub kept : (other : ℕ) → other ≢ place → at q.1 other ≡ at s other
    pub becomes : Becomes place (at s place) (at q.1 place)

  module _ (skip : (place : ℕ) (s : S) → IsGood place s → IsGood (place + 1) s) (stays : (place : ℕ) (seen : V) → content seen ≡ None → Becomes place seen seen)
      (one : (s : S) (place : ℕ) (x : T) (q : F × S) → IsGood place s → content (at s place) ≡ Some x → R (f, s) (item place x) q → LeavesOne s place q) where
    record LeavesFrom (start : ℕ) (s new : S) : Type 0 where
      before : (place : ℕ) → place < start → at new place ≡ at s place
      after : (place : ℕ) → start ≤ place → Becomes place (at s place) (at new place)

    shifted : (first : Option T) (rest : List (Option T)) (start place : ℕ) → start + 1 ≤ place → place_at (first ∷ rest) (place - start) ≡ place_at rest (place - (start + 1))
    shifted first rest start place past =
        let next : place - start ≡ suc (place - (start + 1)) = omega arith in ap (place_at (first ∷ rest)) next

    here-first : (first : Option T) (rest : List (Option T)) (start : ℕ) → place_at (first ∷ rest) (start - start) ≡ first
    here-first first rest start = let none : start - start ≡ 0 = omega arith in ap (place_at (first ∷ rest)) none

    leaves_from : (places : List (Option T)) (start : ℕ) (g : F) (s : S) (last : F) (new : S) → g ≡ f → IsGood start s
        → ((place : ℕ) → start ≤ place → content (at s place) ≡ place_at places (place - start))
        → FoldsTo R (g, s) (map (λ entry. item entry.0 entry.1) (entries_from start places)) (last, new) → LeavesFrom start s new
    leaves_from [] start g s last new same good sees folds =
        let is : s ≡ new = ap (λ p. p.1) folds in
        record {
          before = λ place below. ap (λ t. at t place) (sym is);
          after = λ place past. subst (λ t. Becomes place (at s place) (at t place)) is (stays place (at s place) (sees place past));
        }
    leaves_from (None ∷ places) start g s last new same good sees folds =
        let rest = leaves_from places (start + 1) g s last new same (skip start s good) (λ place past. sees place (omega arith) ∙ shifted None places start place past) folds in
        record {
          before = λ place below. rest.before place (omega arith);
          after = λ place past. elim (cases_eq place start) [
            | inl here ↦
                let none : content (at s start) ≡ None = sees start (omega arith) ∙ here-first None places start in
                subst (λ n. Becomes n (at s n) (at new n)) (sym here) (subst (λ v. Becomes start (at s start) v) (sym (rest.before start (omega arith))) (stays start (at s start) none))
            | inr there ↦ rest.after place (omega arith)
          ];
        }
    leaves_from (Some x ∷ places) start g s last new same good sees (q, called, folds) =
        let is : content (at s start) ≡ Some x = sees start (omega arith) ∙ here-first (Some x) places start in
        let step = one s start x q good is (subst (λ h. R (h, s) (item start x) q) same called) in
        let rest = leaves_from places (start + 1) q.0 q.1 last new step.same step.good
        (λ place past. ap content (step.kept place (λ e. omega arith)) ∙ sees place (omega arith) ∙ shifted (Some x) places start place past) folds in
        record {
          before = λ place below. rest.before place (omega arith) ∙ step.kept place (λ e. omega arith);
          after = λ place past. elim (cases_eq place start) [
            | inl here ↦ subst (λ n. Becomes n (at s n) (at new n)) (sym here) (subst (λ v. Becomes start (at s start) v) (sym (rest.before start (omega arith))) step.becomes)
            | inr there ↦ subst (λ v. Becomes place v (at new place)) (step.kept place there) (rest.after place (omega arith))
          ];
        }

    -- what each place has become once the closure was called with the contents of all
    pub becomes_at_each : (places : List (Option T)) (s : S) (last : F) (new : S) → IsGood 0 s → ((place : ℕ) → content (at s place) ≡ place_at places place)
        → FoldsTo R (f, s) (map (λ entry. item entry.0 entry.1) (entries_from 0 places)) (last, new) → (place : ℕ) → Becomes place (at s place) (at new place)
    becomes_at_each places s last new good sees folds place =
        let whole = leaves_from places 0 f s last new refl good
        (λ n past. sees n ∙ (let same : n ≡ n - 0 = omega arith in ap (place_at places) same)) folds in
        whole.after place (omega arith)

module _ {T : Type 0} where
  -- the value that a call left, or none
  pub value_at-retained : (s : SlotTableState T) (key : ℕ) (value left : T) (keep : Bool) (new : SlotTableState T) → value_at s key ≡ Some value
      → new ≡ (if keep then slot_table_set s key left else slot_table_remove s key) → value_at new key ≡ (if keep then Some left else None)
  value_at-retained s key value left true new at is =
      ap (λ (t : SlotTableState T). value_at t key) is ∙ get_or-set_same s.values key (Some left) None (place_at_within s.values key value at)
  value_at-retained s key value left false new at is =
      ap (λ (t : SlotTableState T). value_at t key) (is ∙ ap (λ place. if is_some place then slot_table_vacate s key else s) at)
      ∙ get_or-set_same s.values key None None (place_at_within s.values key value at)

  whole_entries : (items : List (ℕ × T)) → map (λ item. (item.0, item.1)) items ≡ items
  whole_entries [] = refl
  whole_entries (item ∷ items) = ap (λ rest. item ∷ rest) (whole_entries items)

  module _ {F : Type 0} (f : F) (s : SlotTableState T) (last : F) (new : SlotTableState T) where
    pub RetainsItem-filter : (step : F → ℕ → MutBor T → Bool → MutBor T → F → Type 0) (test : ℕ → T → Bool) → ComputesTest step f test
        → FoldsTo (RetainsItem slot_table_set slot_table_remove step) (f, s) (entries s) (last, new) → (key : ℕ) → value_at new key ≡ option_filter (test key) (value_at s key)
    RetainsItem-filter step test tests folds =
        becomes_at_each value_at (λ v. v) (λ key value. (key, value)) (RetainsItem slot_table_set slot_table_remove step) f (λ _ _. Unit {0}) (λ key old now. now ≡ option_filter (test key) old)
        (λ place t good. tt) (λ key seen none. none ∙ sym (ap (option_filter (test key)) none))
        (λ t key value q good at called.
        let says = tests key value called.0 called.1 q.0 called.2 in
        record {
          same = says.2;
          good = tt;
          kept = (Settles-retained t key called.1 called.0 q.1 called.3).kept;
          becomes = value_at-retained t key value called.1 called.0 q.1 at called.3
              ∙ ap₂ (λ (keep : Bool) left. if keep then Some left else None) says.0 says.1 ∙ sym (ap (option_filter (test key)) at);
        })
        s.values s last new tt (λ key. refl)
        (subst (λ items. FoldsTo (RetainsItem slot_table_set slot_table_remove step) (f, s) items (last, new)) (sym (whole_entries (entries s))) folds)

    pub ChangesItem-map : (step : F → ℕ → MutBor T → Unit {0} → MutBor T → F → Type 0) (change : ℕ → T → T) → ComputesValue step f change
        → FoldsTo (ChangesItem slot_table_set step) (f, s) (entries s) (last, new) → (key : ℕ) → value_at new key ≡ option_map (change key) (value_at s key)
    ChangesItem-map step change changes folds =
        becomes_at_each value_at (λ v. v) (λ key value. (key, value)) (ChangesItem slot_table_set step) f (λ _ _. Unit {0}) (λ key old now. now ≡ option_map (change key) old)
        (λ place t good. tt) (λ key seen none. none ∙ sym (ap (option_map (change key)) none))
        (λ t key value q good at called.
        let says = changes key value called.0 q.0 called.1 in
        record {
          same = says.1;
          good = tt;
          kept = (Settles-slot_table_set t key called.0 q.1 called.2).kept;
          becomes = ap (λ (u : SlotTableState T). value_at u key) called.2 ∙ get_or-set_same t.values key (Some called.0) None (place_at_within t.values key value at)
              ∙ ap Some says.0 ∙ sym (ap (option_map (change key)) at);
        })
        s.values s last new tt (λ key. refl)
        (subst (λ items. FoldsTo (ChangesItem slot_table_set step) (f, s) items (last, new)) (sym (whole_entries (entries s))) folds)
