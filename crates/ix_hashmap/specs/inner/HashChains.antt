-- How a hash map finds a pair: the slots whose keys have one bucket are a chain of links. No clause of a public method cites this.
use Rattle.std.specs.Prelude.{◌≡◌, ◌≢◌, ◌↔◌, ℕ, zero, suc, ◌*◌, ◌/◌, ◌%◌, ◌^◌, ◌<◌, ◌≤◌, List, [], ◌∷◌, ◌++◌, length, nat_eq, count_by, if◌then◌else◌, Some, option_map, slice_index_or, slice_set, replicate, Bool, true}
use Rattle.std.specs.List.{fold}
use Rattle.ix_slottable.specs.SlotTableState.{SlotTableState, value_at, IsHeld}
use Rattle.ix_flatmap.specs.inner.FlatSearch.{is_key_at}
use Rattle.ix_hashmap.specs.declared.hashmap.chain_link.ChainLink.{ChainLink}
use Rattle.ix_hashmap.specs.declared.hashmap.hashed.TheConstants.{FACTOR}
use Rattle.ix_flatmap.specs.declared.map.Pair.{Pair}

-- the number for no slot: no table with chains has a slot of this number
abbrev pub no_place : ℕ
no_place = 4294967295

-- the link of four buckets without a slot, and of a slot without a next one
abbrev pub no_link : ChainLink
no_link = record { heads = replicate 4 no_place; next = no_place }

-- the first slot of a bucket, of the four that a link has
abbrev pub link_head : ChainLink → ℕ → ℕ
link_head link bucket = slice_index_or link.heads (bucket % 4) no_place

-- the first slot of this bucket is another
abbrev pub link_set_head : ChainLink → ℕ → ℕ → ChainLink
link_set_head link bucket place = record link { heads = slice_set link.heads (bucket % 4) place }

-- the upper bits of this number depend on most bits of the hash
abbrev pub scrambled : ℕ → ℕ
scrambled hash = hash * FACTOR % 2 ^ 64

-- the bucket of a hash, of four for each slot: as far from the first one as the scrambled hash is from 0
abbrev pub bucket_of : ℕ → ℕ → ℕ
bucket_of hash places = scrambled hash * places / 2 ^ 62

-- the result of a hasher that is fed this
abbrev pub hash_of : {H : Type 0} → (H → ℕ) → (H → List ℕ → H) → H → List (List ℕ) → ℕ
hash_of finish write hasher input = finish (fold write hasher input)

-- the first slot in the chain of a bucket
abbrev pub head_at : List ChainLink → ℕ → ℕ
head_at links bucket = link_head (slice_index_or links (bucket / 4) no_link) bucket

-- the next slot of a slot in its chain
abbrev pub next_at : List ChainLink → ℕ → ℕ
next_at links place = (slice_index_or links place no_link).next

-- the chain of this bucket begins at this slot
abbrev pub links_set_head : List ChainLink → ℕ → ℕ → List ChainLink
links_set_head links bucket place = slice_set links (bucket / 4) (link_set_head (slice_index_or links (bucket / 4) no_link) bucket place)

-- this slot is followed by that one
abbrev pub links_set_next : List ChainLink → ℕ → ℕ → List ChainLink
links_set_next links place next = slice_set links place (let link = slice_index_or links place no_link in record link { next = next })

-- this slot is the first in the chain of this bucket
abbrev pub links_insert_first : List ChainLink → ℕ → ℕ → List ChainLink
links_insert_first links bucket place = links_set_head (links_set_next links place (head_at links bucket)) bucket place

-- the slots that are met from this one on, at most so many
abbrev pub places_met : ℕ → List ChainLink → ℕ → List ℕ
places_met zero links place = []
places_met (suc steps) links place = if nat_eq place no_place then [] else place ∷ places_met steps links (next_at links place)

-- the slots that are met from this one on
abbrev pub chain_from : List ChainLink → ℕ → List ℕ
chain_from links place = places_met (length links) links place

-- the slots in the chain of a bucket
abbrev pub chain_at : List ChainLink → ℕ → List ℕ
chain_at links bucket = chain_from links (head_at links bucket)

-- `first` is the first of these slots, each is followed by the next one, and none by the last
abbrev pub IsLinked : List ChainLink → ℕ → List ℕ → Type 0
IsLinked links first [] = first ≡ no_place
IsLinked links first (place ∷ places) = (first ≡ place) × IsLinked links (next_at links place) places

-- these slots are linked, and each is one of the table's and comes once
pub record IsChain (links : List ChainLink) (first : ℕ) (places : List ℕ) : Type 0 where
  pub linked : IsLinked links first places
  pub once : (place : ℕ) → count_by (nat_eq place) places ≤ 1
  pub within : (place : ℕ) → 0 < count_by (nat_eq place) places → place < length links
  pub fits : length links ≤ no_place

-- the slots that are met from this one on are a chain
abbrev pub IsChainFrom : List ChainLink → ℕ → Type 0
IsChainFrom links first = IsChain links first (chain_from links first)

-- a slot is in the chain that begins at this one
abbrev pub IsOnChain : List ChainLink → ℕ → ℕ → Type 0
IsOnChain links first place = 0 < count_by (nat_eq place) (chain_from links first)

-- on the chain that begins at `first`, a slot comes right before another one
pub record IsBefore (links : List ChainLink) (first place next : ℕ) : Type 0 where
  pub front : List ℕ
  pub back : List ℕ
  pub is : chain_from links first ≡ front ++ place ∷ next ∷ back

-- a slot leaves the chain of a bucket, and no other does
pub record IsUnlinked (links : List ChainLink) (bucket place : ℕ) (new : List ChainLink) : Type 0 where
  pub lengths : length new ≡ length links
  pub rest : List ℕ
  pub linked : IsLinked new (head_at new bucket) rest
  pub counts : (other : ℕ) → count_by (nat_eq other) (place ∷ rest) ≡ count_by (nat_eq other) (chain_at links bucket)
  pub heads : (other : ℕ) → other ≢ bucket → head_at new other ≡ head_at links other
  pub nexts : (other : ℕ) → count_by (nat_eq other) (chain_at links bucket) ≡ 0 → next_at new other ≡ next_at links other

module _ {T : Type 0} (hash : T → ℕ) (s : SlotTableState T) (links : List ChainLink) where
  -- the chain of a bucket has exactly the slots of its values
  pub record HasChain (bucket : ℕ) : Type 0 where
    pub chain : IsChainFrom links (head_at links bucket)
    pub exactly : (place : ℕ) → IsOnChain links (head_at links bucket) place ↔ (option_map (λ value. bucket_of (hash value) (length links)) (value_at s place) ≡ Some bucket)

  -- each bucket has its chain
  pub record IsHashed : Type 0 where
    pub lengths : length links ≡ length s.values
    pub fits : length links ≤ no_place
    pub each : (bucket : ℕ) → HasChain bucket

-- a map has a link for each slot, and the chains of its pairs if it has chains at all
pub record IsIndexed {T : Type 0} (has_chains : Bool) (hash : T → ℕ) (s : SlotTableState T) (links : List ChainLink) : Type 0 where
  pub lengths : length links ≡ length s.values
  pub chains : has_chains ≡ true → IsHashed hash s links

-- the bucket of a hash has this number, and its chain begins at this slot
pub record IsBucket (hash : ℕ) (links : List ChainLink) (number first : ℕ) : Type 0 where
  pub is : bucket_of hash (length links) ≡ number
  pub below : 0 < length links → number < 4 * length links
  pub starts : first ≡ head_at links number

-- on the chain that begins at `first` each slot has a pair, and if a slot has the key, it is there
pub record LeadsToKey {K Q V : Type 0} (eq : K → Q → Bool) (s : SlotTableState (Pair K V)) (links : List ChainLink) (key : Q) (first : ℕ) : Type 0 where
  pub chain : IsChainFrom links first
  pub held : (place : ℕ) → IsOnChain links first place → IsHeld s place
  pub has : (place : ℕ) → is_key_at eq s key place ≡ true → IsOnChain links first place
