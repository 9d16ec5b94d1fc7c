-- The chains of a hash map after each of its steps.
use Rattle.std.proofs.Common.{◌≡◌, ◌≢◌, ◌↔◌, ℕ, ◌+◌, ◌/◌, ◌<◌, ◌≤◌, inl, inr, List, [], ◌∷◌, length, get_or, Option, Some, None, IsSome, Bool, true, false, refl, sym, ap, ◌∙◌, subst, arith}
use Rattle.std.specs.Prelude.{option_map, replicate, IfSome}
use Rattle.std.specs.Option.{option_map_or}
use Rattle.std.proofs.lemmas.Bool.{cases_eq, cases_lt, both_ways}
use Rattle.std.proofs.lemmas.List.{get_or-set_other, get_or-replicate, get_or_past, length-set, length-replicate}
use Rattle.ix_slottable.specs.SlotTableState.{SlotTableState, value_at, IsHeld, slot_table_new}
use Rattle.ix_slottable.specs.SlotTableSteps.{slot_table_fill, SlotTableInsert, SlotTableRemove}
use Rattle.ix_flatmap.specs.MapState.{map_entry}
use Rattle.ix_flatmap.specs.declared.map.Pair.{Pair}
use Rattle.ix_hashmap.specs.declared.hashmap.chain_link.ChainLink.{ChainLink}
use Rattle.ix_flatmap.specs.inner.FlatSearch.{is_key_at}
use Rattle.ix_hashmap.specs.inner.HashChains.{no_place, no_link, link_head, bucket_of, head_at, next_at, links_set_next, links_insert_first, chain_from, chain_at, IsLinked, IsChain, IsOnChain, IsUnlinked, HasChain, IsHashed, IsIndexed, LeadsToKey, IsBucket}
use Rattle.ix_slottable.proofs.FreeKeys.{key_count, key_count-cons, hit, hit_same, hit_other}
use Rattle.ix_tables.proofs.VacantTables.{place_at-replicate}
use Rattle.ix_slottable.proofs.SlotTableSteps.{SlotTableInsert-fills, SlotTableRemove-vacates}
use Rattle.ix_flatmap.proofs.MapEntries.{IsEntry-map_entry}
use Rattle.ix_hashmap.proofs.HashChains.{link_head-none, length-set_head, length-set_next, next_at-set_head, head_at-set_next, head_at-set_head_other, next_at-set_next, next_at-set_next_other, IsLinked-kept, chain_from-IsChain, IsChainFrom-of, HasRest-from, empty_chain, on_chain-first}

-- the bucket of a hash among those of so many places, which are counted
pub bucket_of-counted : (hash bucket places n : ℕ) → bucket ≡ bucket_of hash places → places ≡ n → bucket_of hash n ≡ bucket
bucket_of-counted hash bucket places n is counted = ap (bucket_of hash) (sym counted) ∙ sym is

module _ {T : Type 0} (hash : T → ℕ) where
  -- the bucket, of so many, of what is at a place
  abbrev bucket_at : SlotTableState T → ℕ → ℕ → Option ℕ
  bucket_at s buckets place = option_map (λ value. bucket_of (hash value) buckets) (value_at s place)

  -- a bucket has the chain of these places
  HasChain-of : (s : SlotTableState T) (links : List ChainLink) (buckets bucket : ℕ) (places : List ℕ) → buckets ≡ length links → IsChain links (head_at links bucket) places
      → ((place : ℕ) → (0 < key_count place places) ↔ (bucket_at s buckets place ≡ Some bucket)) → HasChain hash s links bucket
  HasChain-of s links buckets bucket places as_many chain exactly =
      let is = chain_from-IsChain links (head_at links bucket) places chain in record {
        chain = IsChainFrom-of links (head_at links bucket) places chain;
        exactly = λ place.
            subst (λ n. (0 < key_count place (chain_at links bucket)) ↔ (bucket_at s n place ≡ Some bucket)) as_many
            (subst (λ ps. (0 < key_count place ps) ↔ (bucket_at s buckets place ≡ Some bucket)) (sym is) (exactly place));
      }

  -- a chain keeps its places if its head, the next ones of its places and their buckets stay
  HasChain-kept : (s t : SlotTableState T) (links new : List ChainLink) (bucket : ℕ) → length new ≡ length links → HasChain hash s links bucket → head_at new bucket ≡ head_at links bucket
      → ((place : ℕ) → IsOnChain links (head_at links bucket) place → next_at new place ≡ next_at links place)
      → ((place : ℕ) → (bucket_at s (length links) place ≡ Some bucket) ↔ (bucket_at t (length links) place ≡ Some bucket)) → HasChain hash t new bucket
  HasChain-kept s t links new bucket lengths was head nexts buckets =
      let chain = was.chain in
      let fits = chain.fits in
      HasChain-of t new (length links) bucket (chain_at links bucket) (sym lengths)
      (record {
        linked = subst (λ first. IsLinked new first (chain_at links bucket)) (sym head) (IsLinked-kept links new (head_at links bucket) (chain_at links bucket) nexts chain.linked);
        once = chain.once;
        within = λ place on. (let below = chain.within place on in omega arith);
        fits = omega arith;
      })
      (λ place. (λ on. (buckets place).0 ((was.exactly place).0 on), λ is. (was.exactly place).1 ((buckets place).1 is)))

  -- no value, and no chain
  IsHashed-empty : (s : SlotTableState T) (links : List ChainLink) (buckets : ℕ) → links ≡ replicate buckets no_link → buckets ≡ length s.values → buckets ≤ no_place → ((place : ℕ) → value_at s place ≡ None) → IsHashed hash s links
  IsHashed-empty s links buckets is as_many fits empty =
      let len : length links ≡ buckets = ap length is ∙ length-replicate buckets no_link in record {
        lengths = len ∙ as_many;
        fits = omega arith;
        each = λ bucket. HasChain-of s links buckets bucket [] (sym len)
            (record {
              linked = ap (λ ls. head_at ls bucket) is ∙ ap (λ (link : ChainLink). link_head link bucket) (all_same (bucket / 4)) ∙ link_head-none bucket;
              once = λ place. omega arith;
              within = λ place on. absurd (let none : key_count place [] ≡ 0 = refl in omega arith);
              fits = omega arith;
            })
            (λ place. (
              λ on. absurd (let none : key_count place [] ≡ 0 = refl in omega arith),
              λ some. absurd (let none : None ≡ Some bucket = sym (ap (option_map (λ value. bucket_of (hash value) buckets)) (empty place)) ∙ some in cc),
            ));
      }
    where
      all_same : (i : ℕ) → get_or (replicate buckets no_link) i no_link ≡ no_link
      all_same i = elim (cases_lt i buckets) [
        | inl below ↦ get_or-replicate buckets i no_link no_link below
        | inr past ↦ get_or_past (replicate buckets no_link) i no_link (let len = length-replicate buckets no_link in omega arith)
      ]

  -- the same with no chains, if the table has none
  pub IsIndexed-empty : (has_chains : Bool) (s : SlotTableState T) (links : List ChainLink) (buckets : ℕ) → links ≡ replicate buckets no_link → buckets ≡ length s.values → (has_chains ≡ true → buckets ≤ no_place) → ((place : ℕ) → value_at s place ≡ None) → IsIndexed has_chains hash s links
  IsIndexed-empty has_chains s links buckets is as_many fits empty = record {
    lengths = ap length is ∙ length-replicate buckets no_link ∙ as_many;
    chains = λ yes. IsHashed-empty s links buckets is as_many (fits yes) empty;
  }

  pub IsIndexed-new : (has_chains : Bool) (capacity : ℕ) (links : List ChainLink) → links ≡ replicate capacity no_link → (has_chains ≡ true → capacity ≤ no_place) → IsIndexed has_chains hash (slot_table_new capacity) links
  IsIndexed-new has_chains capacity links is fits =
      IsIndexed-empty has_chains (slot_table_new capacity) links capacity is (sym (length-replicate capacity None)) fits (place_at-replicate capacity)

  pub IsIndexed-equal : (has_chains : Bool) (s t : SlotTableState T) (links others : List ChainLink) → t ≡ s → others ≡ links → IsIndexed has_chains hash s links → IsIndexed has_chains hash t others
  IsIndexed-equal has_chains s t links others same same_links index =
      subst (λ ls. IsIndexed has_chains hash t ls) (sym same_links) (subst (λ u. IsIndexed has_chains hash u links) (sym same) index)

  -- a value is inserted, and its place becomes the first of its chain
  module _ (old new : SlotTableState T) (x : T) (place bucket : ℕ) (links : List ChainLink) (hashed : IsHashed hash old links) (step : SlotTableInsert old x new (Some place)) (is : bucket_of (hash x) (length links) ≡ bucket) (head_here : head_at (links_insert_first links bucket place) bucket ≡ place) where
    filled : new ≡ slot_table_fill old place x
    filled = SlotTableInsert-fills old x new place step

    was_none : bucket_at old (length links) place ≡ None
    was_none = ap (option_map (λ value. bucket_of (hash value) (length links))) step.was_free.1

    is_now : bucket_at new (length links) place ≡ Some bucket
    is_now = ap (option_map (λ value. bucket_of (hash value) (length links))) step.holds ∙ ap Some is

    elsewhere : (other : ℕ) → other ≢ place → bucket_at new (length links) other ≡ bucket_at old (length links) other
    elsewhere other apart =
        ap (option_map (λ value. bucket_of (hash value) (length links)))
        (ap (λ (s : SlotTableState T). value_at s other) filled ∙ get_or-set_other old.values place other (Some x) None apart)

    in_range : place < length links
    in_range = let was = step.was_free.0 in let lengths = hashed.lengths in omega arith

    abbrev followed : List ChainLink
    followed = links_set_next links place (head_at links bucket)

    abbrev after : List ChainLink
    after = links_insert_first links bucket place

    as_long : length after ≡ length links
    as_long = length-set_head followed bucket place ∙ length-set_next links place (head_at links bucket)

    head_there : (other : ℕ) → other ≢ bucket → head_at after other ≡ head_at links other
    head_there other apart = head_at-set_head_other followed bucket place other apart ∙ head_at-set_next links place (head_at links bucket) other

    next_here : next_at after place ≡ head_at links bucket
    next_here = next_at-set_head followed bucket place place ∙ next_at-set_next links place (head_at links bucket) in_range

    next_there : (other : ℕ) → other ≢ place → next_at after other ≡ next_at links other
    next_there other apart = next_at-set_head followed bucket place other ∙ next_at-set_next_other links place (head_at links bucket) other apart

    -- the place was on no chain
    not_on : (other : ℕ) → key_count place (chain_at links other) ≡ 0
    not_on other = elim (cases_eq (key_count place (chain_at links other)) 0) [
      | inl none ↦ none
      | inr some ↦
          let has = ((hashed.each other).exactly place).0 (omega arith) in
          let clash : None ≡ Some other = sym was_none ∙ has in absurd (cc)
    ]

    apart_on : (other q : ℕ) → 0 < key_count q (chain_at links other) → q ≢ place
    apart_on other q on same =
        let none = not_on other in
        let moved = ap (λ k. key_count k (chain_at links other)) same in omega arith

    own_chain : HasChain hash new after bucket
    own_chain =
        let chain = (hashed.each bucket).chain in
        let none = not_on bucket in
        let fits = chain.fits in
        HasChain-of new after (length links) bucket (place ∷ chain_at links bucket) (sym as_long)
        (record {
          linked = (
            head_here,
            subst (λ next. IsLinked after next (chain_at links bucket)) (sym next_here)
                (IsLinked-kept links after (head_at links bucket) (chain_at links bucket) (λ q on. next_there q (apart_on bucket q on)) chain.linked),
          );
          once = λ q.
              let most = chain.once q in
              let counts = key_count-cons q place (chain_at links bucket) in
              elim (cases_eq q place) [
                | inl same ↦ let one = hit_same q place same in let moved = ap (λ k. key_count k (chain_at links bucket)) same in omega arith
                | inr apart ↦ let no = hit_other q place apart in omega arith
              ];
          within = λ q on.
              let counts = key_count-cons q place (chain_at links bucket) in
              let same_length = as_long in
              let below_length = in_range in
              elim (cases_eq q place) [
                | inl same ↦ omega arith
                | inr apart ↦ let no = hit_other q place apart in let low = chain.within q (omega arith) in omega arith
              ];
          fits = let same_length = as_long in omega arith;
        })
        (λ q.
        let counts = key_count-cons q place (chain_at links bucket) in
        elim (cases_eq q place) [
          | inl same ↦ (λ on. ap (bucket_at new (length links)) same ∙ is_now, λ has. (let one = hit_same q place same in omega arith))
          | inr apart ↦
              let no = hit_other q place apart in (
                λ on. elsewhere q apart ∙ ((hashed.each bucket).exactly q).0 (omega arith),
                λ has. (let on = ((hashed.each bucket).exactly q).1 (sym (elsewhere q apart) ∙ has) in omega arith),
              )
        ])

    other_chain : (other : ℕ) → other ≢ bucket → HasChain hash new after other
    other_chain other apart =
        HasChain-kept old new links after other as_long (hashed.each other) (head_there other apart) (λ q on. next_there q (apart_on other q on))
        (λ q. elim (cases_eq q place) [
          | inl same ↦ (
            λ was. absurd (let clash : None ≡ Some other = sym (ap (bucket_at old (length links)) same ∙ was_none) ∙ was in cc),
            λ now. absurd (let both : Some other ≡ Some bucket = sym now ∙ (ap (bucket_at new (length links)) same ∙ is_now) in let equal : other ≡ bucket = cc in apart equal),
          )
          | inr differs ↦ (λ was. elsewhere q differs ∙ was, λ now. sym (elsewhere q differs) ∙ now)
        ])

    IsHashed-inserted : IsHashed hash new (links_insert_first links bucket place)
    IsHashed-inserted = record {
      lengths = as_long ∙ hashed.lengths ∙ sym (ap (λ (s : SlotTableState T). length s.values) filled ∙ length-set old.values place (Some x));
      fits = let same = as_long in let fits = hashed.fits in omega arith;
      each = λ other. elim (cases_eq other bucket) [
        | inl same ↦ subst (HasChain hash new after) (sym same) own_chain
        | inr apart ↦ other_chain other apart
      ];
    }

  -- the chain of a value's bucket has its place
  pub on_chain-held : (s : SlotTableState T) (links : List ChainLink) (place bucket : ℕ) (x : T) → IsHashed hash s links → value_at s place ≡ Some x → bucket_of (hash x) (length links) ≡ bucket → IsOnChain links (head_at links bucket) place
  on_chain-held s links place bucket x hashed at is =
      ((hashed.each bucket).exactly place).1 (ap (option_map (λ value. bucket_of (hash value) (length links))) at ∙ ap Some is)

  -- a value is removed, and its place leaves its chain
  module _ (old new : SlotTableState T) (x : T) (place bucket : ℕ) (links after : List ChainLink) (hashed : IsHashed hash old links) (step : SlotTableRemove old place new (Some x)) (is : bucket_of (hash x) (length links) ≡ bucket) (unlinked : IsUnlinked links bucket place after) where
    was_here : bucket_at old (length links) place ≡ Some bucket
    was_here = ap (option_map (λ value. bucket_of (hash value) (length links))) (sym step.value) ∙ ap Some is

    is_gone : bucket_at new (length links) place ≡ None
    is_gone = ap (option_map (λ value. bucket_of (hash value) (length links))) step.gone

    stays : (other : ℕ) → other ≢ place → bucket_at new (length links) other ≡ bucket_at old (length links) other
    stays other apart = ap (option_map (λ value. bucket_of (hash value) (length links))) (step.kept other apart)

    own_rest : HasChain hash new after bucket
    own_rest =
        let chain = (hashed.each bucket).chain in
        let lengths = unlinked.lengths in
        let fits = chain.fits in
        HasChain-of new after (length links) bucket unlinked.rest (sym lengths)
        (record {
          linked = unlinked.linked;
          once = λ q. (let most = chain.once q in let counts = unlinked.counts q in let first = key_count-cons q place unlinked.rest in omega arith);
          within = λ q on. (let counts = unlinked.counts q in let first = key_count-cons q place unlinked.rest in let below = chain.within q (omega arith) in omega arith);
          fits = omega arith;
        })
        (λ q.
        let most = chain.once q in
        let counts = unlinked.counts q in
        let first = key_count-cons q place unlinked.rest in
        elim (cases_eq q place) [
          | inl same ↦ (
            λ on. absurd (let one = hit_same q place same in omega arith),
            λ has. absurd (let clash : None ≡ Some bucket = sym (ap (bucket_at new (length links)) same ∙ is_gone) ∙ has in cc),
          )
          | inr apart ↦
              let no = hit_other q place apart in (
                λ on. stays q apart ∙ ((hashed.each bucket).exactly q).0 (omega arith),
                λ has. (let on = ((hashed.each bucket).exactly q).1 (sym (stays q apart) ∙ has) in omega arith),
              )
        ])

    other_rest : (other : ℕ) → other ≢ bucket → HasChain hash new after other
    other_rest other apart =
        HasChain-kept old new links after other unlinked.lengths (hashed.each other) (unlinked.heads other apart)
        (λ q on. unlinked.nexts q (elim (cases_eq (key_count q (chain_at links bucket)) 0) [
          | inl none ↦ none
          | inr some ↦
              let here = ((hashed.each bucket).exactly q).0 (omega arith) in
              let there = ((hashed.each other).exactly q).0 on in
              let both : Some other ≡ Some bucket = sym there ∙ here in
              let equal : other ≡ bucket = cc in absurd (apart equal)
        ]))
        (λ q. elim (cases_eq q place) [
          | inl same ↦ (
            λ was. absurd (let both : Some other ≡ Some bucket = sym was ∙ (ap (bucket_at old (length links)) same ∙ was_here) in let equal : other ≡ bucket = cc in apart equal),
            λ now. absurd (let clash : None ≡ Some other = sym (ap (bucket_at new (length links)) same ∙ is_gone) ∙ now in cc),
          )
          | inr differs ↦ (λ was. stays q differs ∙ was, λ now. sym (stays q differs) ∙ now)
        ])

    IsHashed-removed : IsHashed hash new after
    IsHashed-removed = record {
      lengths = unlinked.lengths ∙ hashed.lengths ∙ sym (ap (λ (s : SlotTableState T). length s.values) (SlotTableRemove-vacates old place new x step) ∙ length-set old.values place None);
      fits = let same = unlinked.lengths in let fits = hashed.fits in omega arith;
      each = λ other. elim (cases_eq other bucket) [
        | inl same ↦ subst (HasChain hash new after) (sym same) own_rest
        | inr apart ↦ other_rest other apart
      ];
    }

  -- the same of a table that has no chains if `has_chains` is false
  module _ (has_chains : Bool) (old new : SlotTableState T) (x : T) (links : List ChainLink) (index : IsIndexed has_chains hash old links) where
    IsIndexed-kept : has_chains ≡ false → length new.values ≡ length old.values → IsIndexed has_chains hash new links
    IsIndexed-kept none same = record { lengths = index.lengths ∙ sym same; chains = λ some. absurd (both_ways has_chains none some) }

    pub IsIndexed-insert : has_chains ≡ false → (result : Option ℕ) → SlotTableInsert old x new result → IsIndexed has_chains hash new links
    IsIndexed-insert none None step = IsIndexed-kept none (ap (λ (s : SlotTableState T). length s.values) (step.refused refl))
    IsIndexed-insert none (Some place) step =
        IsIndexed-kept none (ap (λ (s : SlotTableState T). length s.values) (SlotTableInsert-fills old x new place step) ∙ length-set old.values place (Some x))

    pub IsIndexed-remove : has_chains ≡ false → (place : ℕ) → SlotTableRemove old place new (Some x) → IsIndexed has_chains hash new links
    IsIndexed-remove none place step =
        IsIndexed-kept none (ap (λ (s : SlotTableState T). length s.values) (SlotTableRemove-vacates old place new x step) ∙ length-set old.values place None)

    pub IsIndexed-inserted : has_chains ≡ true → (place bucket : ℕ) → SlotTableInsert old x new (Some place) → bucket_of (hash x) (length links) ≡ bucket → head_at (links_insert_first links bucket place) bucket ≡ place → IsIndexed has_chains hash new (links_insert_first links bucket place)
    IsIndexed-inserted some place bucket step is head =
        let hashed = IsHashed-inserted old new x place bucket links (index.chains some) step is head in
        record { lengths = hashed.lengths; chains = λ yes. hashed }

    pub IsIndexed-removed : has_chains ≡ true → (place bucket : ℕ) (after : List ChainLink) → SlotTableRemove old place new (Some x) → bucket_of (hash x) (length links) ≡ bucket → IsUnlinked links bucket place after → IsIndexed has_chains hash new after
    IsIndexed-removed some place bucket after step is unlinked =
        let hashed = IsHashed-removed old new x place bucket links after (index.chains some) step is unlinked in
        record { lengths = hashed.lengths; chains = λ yes. hashed }

module _ {K Q V : Type 0} (eq : K → Q → Bool) where
  -- the chain of a key's bucket leads to it
  pub LeadsToKey-hashed : (hash : Pair K V → ℕ) (s : SlotTableState (Pair K V)) (links : List ChainLink) (key : Q) (bucket : ℕ) → IsHashed hash s links → ((pair : Pair K V) → eq pair.key key ≡ true → bucket_of (hash pair) (length links) ≡ bucket) → LeadsToKey eq s links key (head_at links bucket)
  LeadsToKey-hashed hash s links key bucket hashed same =
      let at = hashed.each bucket in record {
        chain = at.chain;
        held = λ place on. held_if_some (value_at s place) ((at.exactly place).0 on);
        has = λ place is. (at.exactly place).1 (bucket_if_key (value_at s place) is);
      }
    where
      held_if_some : (content : Option (Pair K V)) → option_map (λ value. bucket_of (hash value) (length links)) content ≡ Some bucket → IsSome content
      held_if_some None none = absurd (cc)
      held_if_some (Some pair) some = refl

      bucket_if_key : (content : Option (Pair K V)) → option_map_or (λ pair. eq pair.key key) content false ≡ true → option_map (λ value. bucket_of (hash value) (length links)) content ≡ Some bucket
      bucket_if_key None none = absurd (cc)
      bucket_if_key (Some pair) is = ap Some (same pair is)

  module _ (s : SlotTableState (Pair K V)) (links : List ChainLink) (key : Q) (first : ℕ) (leads : LeadsToKey eq s links key first) where
    -- a place of the table is not the number for none
    is_some : first < length links → first ≢ no_place
    is_some below none = let fits = leads.chain.fits in omega arith

    pub LeadsToKey-held : first < length links → IsHeld s first
    LeadsToKey-held below = leads.held first (on_chain-first links first leads.chain (is_some below))

    -- a place with another key is passed
    pub LeadsToKey-next : first < length links → (pair : Pair K V) → value_at s first ≡ Some pair → eq pair.key key ≡ false → LeadsToKey eq s links key (next_at links first)
    LeadsToKey-next below pair at differs =
        let more = HasRest-from links first leads.chain (is_some below) in
        let counts : (place : ℕ) → key_count place (chain_from links first) ≡ hit place first + key_count place (chain_from links (next_at links first)) = λ place. (
        ap (key_count place) more.is ∙ key_count-cons place first (chain_from links (next_at links first))
        ) in record {
          chain = more.rest;
          held = λ place on. leads.held place (let all = counts place in omega arith);
          has = λ place is.
              let on = leads.has place is in
              let all = counts place in
              let elsewhere : place ≢ first = λ here. both_ways _
              (ap (λ (content : Option (Pair K V)). option_map_or (λ pair. eq pair.key key) content false) at ∙ differs)
              (ap (is_key_at eq s key) (sym here) ∙ is) in
              let no = hit_other place first elsewhere in omega arith;
        }

    -- the chain is shorter after its first place
    pub LeadsToKey-shorter : first < length links → length (chain_from links (next_at links first)) < length (chain_from links first)
    LeadsToKey-shorter below = let is = ap length (HasRest-from links first leads.chain (is_some below)).is in omega arith

    -- at the end no place has the key
    pub LeadsToKey-end : length links ≤ first → map_entry eq s key ≡ None
    LeadsToKey-end past = go (map_entry eq s key) refl
      where
        ended : first ≡ no_place
        ended = elim (cases_eq first no_place) [
          | inl is ↦ is
          | inr apart ↦ let below = leads.chain.within first (on_chain-first links first leads.chain apart) in absurd (omega (arith, past, below))
        ]

        go : (found : Option (ℕ × Pair K V)) → map_entry eq s key ≡ found → found ≡ None
        go None none = refl
        go (Some entry) some =
            let is = IsEntry-map_entry eq s key entry some in
            absurd (empty_chain links first leads.chain ended entry.0
            (leads.has entry.0 (ap (λ (content : Option (Pair K V)). option_map_or (λ pair. eq pair.key key) content false) is.at ∙ is.equal)))

-- a table without places has the bucket 0, without a place
pub IsBucket-none : (hash : ℕ) (links : List ChainLink) → length links ≡ 0 → IsBucket hash links 0 no_place
IsBucket-none hash [] none = record { is = grind (arith); below = λ some. absurd (omega (arith, some)); starts = refl }
IsBucket-none hash (link ∷ links) none = absurd (omega (arith, none))

module _ {K V : Type 0} (eq : K → K → Bool) (hash : K → ℕ) (respects : (a b : K) → eq a b ≡ true → hash a ≡ hash b) where
  -- the bucket of a key is that of the equal key
  pub IsBucket-equal : (s : SlotTableState (Pair K V)) (links : List ChainLink) (key : K) (number first : ℕ) → IsBucket (hash key) links number first → IfSome (map_entry eq s key) (λ entry. IsBucket (hash entry.1.key) links number first)
  IsBucket-equal s links key number first bucket = go (map_entry eq s key) refl
    where
      go : (found : Option (ℕ × Pair K V)) → map_entry eq s key ≡ found → IfSome found (λ entry. IsBucket (hash entry.1.key) links number first)
      go None none = tt
      go (Some entry) some = record {
        is = ap (λ (h : ℕ). bucket_of h (length links)) (respects entry.1.key key (IsEntry-map_entry eq s key entry some).equal) ∙ bucket.is;
        below = bucket.below;
        starts = bucket.starts;
      }
