-- The chains of pairs are the chains of other pairs with equal keys in the same slots.
use Rattle.std.specs.Prelude.{◌≡◌, ℕ, List, length, Option, Some, None, option_map, Bool, refl}
use Rattle.std.proofs.Common.{sym, ap, ◌∙◌}
use Rattle.ix_slottable.specs.SlotTableState.{SlotTableState, value_at}
use Rattle.ix_slottable.specs.SlotTableCopies.{IsCloneAt, SlotTableIsClone}
use Rattle.ix_hashmap.specs.declared.hashmap.chain_link.ChainLink.{ChainLink}
use Rattle.ix_hashmap.specs.inner.HashChains.{bucket_of, IsHashed, IsIndexed}

module _ {T : Type 0} (hash : T → ℕ) where
  -- values with the buckets of other values in the same slots have the chains of these values
  pub IsHashed-same : (s t : SlotTableState T) (links : List ChainLink) → length t.values ≡ length s.values
      → ((place : ℕ) → option_map (λ value. bucket_of (hash value) (length links)) (value_at t place) ≡ option_map (λ value. bucket_of (hash value) (length links)) (value_at s place))
      → IsHashed hash s links → IsHashed hash t links
  IsHashed-same s t links as_many same hashed = record {
    lengths = hashed.lengths ∙ sym as_many;
    fits = hashed.fits;
    each = λ bucket. record {
      chain = (hashed.each bucket).chain;
      exactly = λ place. (
        λ on. same place ∙ ((hashed.each bucket).exactly place).0 on,
        λ is. ((hashed.each bucket).exactly place).1 (sym (same place) ∙ is),
      );
    };
  }

  -- clones with the hashes of their values have the chains of these values
  pub IsHashed-clone : (is_clone : T → T → Type 0) (s copy : SlotTableState T) (links : List ChainLink) → ((x y : T) → is_clone x y → hash y ≡ hash x) → SlotTableIsClone is_clone s copy → IsHashed hash s links → IsHashed hash copy links
  IsHashed-clone is_clone s copy links alike is hashed =
      IsHashed-same s copy links is.capacity (λ place. same (value_at s place) (value_at copy place) (is.values place)) hashed
    where
      same : (value other : Option T) → IsCloneAt is_clone value other → option_map (λ v. bucket_of (hash v) (length links)) other ≡ option_map (λ v. bucket_of (hash v) (length links)) value
      same None None here = refl
      same None (Some y) here = absurd here
      same (Some x) None here = absurd here
      same (Some x) (Some y) here = ap (λ (h : ℕ). Some (bucket_of h (length links))) (alike x y here)

  -- clones with the hashes of their values have the index of these values
  pub IsIndexed-clone : (has_chains : Bool) (is_clone : T → T → Type 0) (s copy : SlotTableState T) (links : List ChainLink) → ((x y : T) → is_clone x y → hash y ≡ hash x) → SlotTableIsClone is_clone s copy → IsIndexed has_chains hash s links → IsIndexed has_chains hash copy links
  IsIndexed-clone has_chains is_clone s copy links alike is index = record {
    lengths = index.lengths ∙ sym is.capacity;
    chains = λ yes. IsHashed-clone is_clone s copy links alike is (index.chains yes);
  }
