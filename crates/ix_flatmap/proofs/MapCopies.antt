-- Clones of maps.
use Rattle.std.proofs.Common.{◌≡◌, ℕ, Option, Some, None, Bool, true, inl, inr, get_or-set_same, get_or-set_other, refl, sym, ap₂, ◌∙◌, subst}
use Rattle.std.proofs.lemmas.Bool.{cases_eq}
use Rattle.std.proofs.lemmas.List.{length-set}
use Rattle.std.specs.Cmp.{IsEquivalence}
use Rattle.ix_tables.specs.Cloning.{AreEqualClones}
use Rattle.ix_slottable.specs.SlotTableState.{SlotTableState, value_at}
use Rattle.ix_slottable.specs.SlotTableSteps.{slot_table_set}
use Rattle.ix_slottable.specs.SlotTableCopies.{IsCloneAt, SlotTableIsClone}
use Rattle.ix_tables.proofs.Places.{place_at_within}
use Rattle.ix_flatmap.specs.MapState.{HasDistinctKeys}
use Rattle.ix_flatmap.specs.MapCopies.{PairIsClone}
use Rattle.ix_flatmap.specs.declared.map.pair.Pair.{Pair}

module _ {T : Type 0} (is_clone : T → T → Type 0) where
  -- what a clone is of
  original : (value : Option T) (copy : Option T) (y : T) → IsCloneAt is_clone value copy → copy ≡ Some y → (x : T) × (value ≡ Some x) × is_clone x y
  original None None y is at = absurd (cc)
  original None (Some z) y is at = absurd is
  original (Some x) None y is at = absurd is
  original (Some x) (Some z) y is at = let same : z ≡ y = cc in (x, refl, subst (is_clone x) same is)

module _ {K V : Type 0} (eq : K → K → Bool) where
  pub HasDistinctKeys-clone : (laws : IsEquivalence eq) (is_key : K → K → Type 0) (is_value : V → V → Type 0) (s copy : SlotTableState (Pair K V)) → SlotTableIsClone (PairIsClone eq is_key is_value) s copy → HasDistinctKeys eq s → HasDistinctKeys eq copy
  HasDistinctKeys-clone laws is_key is_value s copy is distinct i j a b at_i at_j equal =
      let of_i = original (PairIsClone eq is_key is_value) (value_at s i) (value_at copy i) a (is.values i) at_i in
      let of_j = original (PairIsClone eq is_key is_value) (value_at s j) (value_at copy j) b (is.values j) at_j in
      distinct i j of_i.0 of_j.0 of_i.1 of_j.1
      (sym (laws.congr a.key of_i.0.key of_j.0.key of_i.2.equal) ∙ laws.congr a.key b.key of_j.0.key equal ∙ of_j.2.equal)

  pub AreEqualClones-pair : (is_key : K → K → Type 0) (is_value : V → V → Type 0) → AreEqualClones is_key → AreEqualClones is_value → AreEqualClones (PairIsClone eq is_key is_value)
  AreEqualClones-pair is_key is_value keys values x y is =
      ap₂ (λ key value. let pair : Pair K V = record { key = key; value = value } in pair) (keys x.key y.key is.key) (values x.value y.value is.value)

  -- the keys of two pairs are equal
  abbrev HaveEqualKeys : Pair K V → Pair K V → Type 0
  HaveEqualKeys pair other = eq other.key pair.key ≡ true

  -- clones have equal keys
  pub equal_keys-clone : (is_key : K → K → Type 0) (is_value : V → V → Type 0) (s copy : SlotTableState (Pair K V)) → SlotTableIsClone (PairIsClone eq is_key is_value) s copy → SlotTableIsClone HaveEqualKeys s copy
  equal_keys-clone is_key is_value s copy is = record {
    capacity = is.capacity;
    values = λ place. each (value_at s place) (value_at copy place) (is.values place);
    free = is.free;
  }
    where
      each : (value copy : Option (Pair K V)) → IsCloneAt (PairIsClone eq is_key is_value) value copy → IsCloneAt HaveEqualKeys value copy
      each None None is = is
      each None (Some copy) is = absurd is
      each (Some value) None is = absurd is
      each (Some value) (Some copy) is = is.equal

  -- another value at a place leaves the keys as they are
  pub equal_keys-set : (laws : IsEquivalence eq) (s : SlotTableState (Pair K V)) (place : ℕ) (pair : Pair K V) (value : V) → value_at s place ≡ Some pair → SlotTableIsClone HaveEqualKeys s (slot_table_set s place (record pair { value = value }))
  equal_keys-set laws s place pair value at =
      let new : SlotTableState (Pair K V) = slot_table_set s place (record pair { value = value }) in record {
        capacity = length-set s.values place (Some (record pair { value = value }));
        values = λ other. elim (cases_eq other place) [
          | inl same ↦
              subst (λ (i : ℕ). IsCloneAt HaveEqualKeys (value_at s i) (value_at new i)) (sym same)
              (subst (λ (here : Option (Pair K V)). IsCloneAt HaveEqualKeys here (value_at new place)) (sym at)
              (subst (IsCloneAt HaveEqualKeys (Some pair)) (sym (get_or-set_same s.values place (Some (record pair { value = value })) None (place_at_within s.values place pair at)))
              (laws.refl pair.key)))
          | inr apart ↦
              subst (IsCloneAt HaveEqualKeys (value_at s other)) (sym (get_or-set_other s.values place other (Some (record pair { value = value })) None apart)) (itself (value_at s other))
        ];
        free = refl;
      }
    where
      itself : (content : Option (Pair K V)) → IsCloneAt HaveEqualKeys content content
      itself None = tt
      itself (Some pair) = laws.refl pair.key
