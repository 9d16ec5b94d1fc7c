-- The parts of a row, as its places are filled, emptied and lent.
use Rattle.std.proofs.Common.{◌≡◌, ℕ, zero, suc, Bool, false, List, ◌∷◌, length, length-set, map, get_or, set, replicate}
use Rattle.std.proofs.Common.{Option, Some, None, IsSome, is_some, refl, sym, ap, subst, ◌∙◌}
use Rattle.std.proofs.lemmas.List.{map-set, length-map, length-replicate}
use Rattle.std.proofs.Math.Seq.{map-set_same}
use Rattle.ix_tables.specs.inner.RawRows.{with_places, IsVacantRow, IsGrantFor, IsGrantOf, AreParts}
use Rattle.ix_tables.specs.declared.cells.raw_row.RowPtr.{RowPtr}
use Rattle.ix_tables.specs.declared.cells.raw_row.RowOwner.{RowOwner}
use Rattle.ix_tables.specs.declared.cells.raw_row.RowGrant.{RowGrant}

-- no place holds an item, and none is marked
unmarked_places : (T : Type 0) (n : ℕ) → replicate n false ≡ map (is_some {T = T}) (replicate n None)
unmarked_places T zero = refl
unmarked_places T (suc n) = ap (λ marks. false ∷ marks) (unmarked_places T n)

module _ {T A : Type 0} where
  grant_kept : (grant : Option (RowGrant T A)) (row : RowOwner T) (alloc : A) (places : List (Option T))
      → length places ≡ length row.places → IsGrantOf grant row alloc → IsGrantOf grant (with_places row places) alloc
  grant_kept (Some grant) row alloc places long h = record { start = h.start; len = h.len ∙ sym long; alloc = h.alloc }
  grant_kept None row alloc places long h = h

  -- the grant of a new row, from an allocator that is a
  pub grant_made : (ptr : RowPtr T) (row : RowOwner T) (grant : RowGrant T A) (n : ℕ) (alloc a : A)
      → IsVacantRow row ptr.start n → IsGrantFor grant ptr.start n alloc → alloc ≡ a → IsGrantOf (Some grant) row a
  grant_made ptr row grant n alloc a vacant h is = record {
    start = h.start ∙ sym vacant.start;
    len = h.len ∙ sym (ap length vacant.places ∙ length-replicate n None);
    alloc = h.alloc ∙ is;
  }

  module _ (ptr : RowPtr T) (row : RowOwner T) (grant : Option (RowGrant T A)) (held : List Bool) (alloc : A) where
    -- the parts of a new row
    pub parts_made : (n : ℕ) → IsVacantRow row ptr.start n → held ≡ replicate n false → IsGrantOf grant row alloc → AreParts ptr row grant held alloc
    parts_made n vacant unmarked block = record {
      start = sym vacant.start;
      marks = unmarked ∙ unmarked_places T n ∙ ap (map is_some) (sym vacant.places);
      block = block;
    }

    module _ (h : AreParts ptr row grant held alloc) where
      -- place i gets another content, and the mark of that
      pub parts_set : (i : ℕ) (place : Option T) (new : RowOwner T) → new ≡ with_places row (set row.places i place) → AreParts ptr new grant (set held i (is_some place)) alloc
      parts_set i place new is = subst (λ r. AreParts ptr r grant (set held i (is_some place)) alloc) (sym is) (record {
        start = h.start;
        marks = ap (λ marks. set marks i (is_some place)) h.marks ∙ sym (map-set is_some row.places i place);
        block = grant_kept grant row alloc (set row.places i place) (length-set row.places i place) h.block;
      })

      -- the item in place i is written over
      pub parts_lent : (i : ℕ) (item : T) → IsSome (get_or row.places i None) → AreParts ptr (with_places row (set row.places i (Some item))) grant held alloc
      parts_lent i item is = record {
        start = h.start;
        marks = h.marks ∙ sym (map-set_same is_some row.places i (Some item) None (sym is));
        block = grant_kept grant row alloc (set row.places i (Some item)) (length-set row.places i (Some item)) h.block;
      }

      -- there are as many marks as places
      pub as_many_marks : length held ≡ length row.places
      as_many_marks = ap length h.marks ∙ length-map row.places is_some
