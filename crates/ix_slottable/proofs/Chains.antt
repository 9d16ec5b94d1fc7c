-- Chains of links, and how the write of one link changes them.
use Rattle.std.proofs.Common.{◌≡◌, ℕ, zero, suc, ◌<◌, ◌≤◌, ◌≢◌, inl, inr, List, [], ◌∷◌, ◌++◌, length, set, Option, Some, None, refl, ap, ◌∙◌, arith}
use Rattle.std.specs.Prelude.{option_map, unwrap_or}
use Rattle.std.proofs.lemmas.Bool.{cases_eq}
use Rattle.std.proofs.lemmas.List.{get_or-set_same, get_or-set_other}
use Rattle.ix_tables.specs.Places.{place_at}
use Rattle.ix_tables.proofs.Places.{place_at_within}
use Rattle.ix_slottable.specs.declared.slottable.link.Link.{Link}
use Rattle.ix_slottable.specs.inner.FreeList.{free_link, first_or, last_or, links_keys_from, IsChain, links_set_next, links_set_previous}
use Rattle.ix_slottable.proofs.FreeKeys.{key_count, key_count-cons, hit_same, hit_other, first_occurs, apart_from_last_or}

-- the links around one key of a chain
pub record ChainParts (links : List (Option Link)) (before : ℕ) (front : List ℕ) (key : ℕ) (back : List ℕ) (after : ℕ) : Type 0 where
  pub to_key : IsChain links before front key
  pub at_key : place_at links key ≡ Some (free_link (last_or before front) (first_or back after))
  pub from_key : IsChain links key back after

pub chain_parts : (links : List (Option Link)) (before : ℕ) (front : List ℕ) (key : ℕ) (back : List ℕ) (after : ℕ) → IsChain links before (front ++ key ∷ back) after → ChainParts links before front key back after
chain_parts links before [] key back after chain = record { to_key = tt; at_key = chain.0; from_key = chain.1 }
chain_parts links before (first ∷ []) key back after chain =
    let rest = chain_parts links first [] key back after chain.1 in
    record { to_key = (chain.0, tt); at_key = rest.at_key; from_key = rest.from_key }
chain_parts links before (first ∷ next ∷ front) key back after chain =
    let rest = chain_parts links first (next ∷ front) key back after chain.1 in
    record { to_key = (chain.0, rest.to_key); at_key = rest.at_key; from_key = rest.from_key }

pub IsChain-append : (links : List (Option Link)) (before : ℕ) (front back : List ℕ) (after : ℕ) → IsChain links before front (first_or back after) → IsChain links (last_or before front) back after → IsChain links before (front ++ back) after
IsChain-append links before [] back after to from = from
IsChain-append links before (first ∷ []) back after to from = (to.0, from)
IsChain-append links before (first ∷ next ∷ front) back after to from = (to.0, IsChain-append links first (next ∷ front) back after to.1 from)

-- a chain does not change if the link of another key is set
pub IsChain-set_other : (links : List (Option Link)) (key : ℕ) (link : Option Link) (before : ℕ) (keys : List ℕ) (after : ℕ) → ((other : ℕ) → 0 < key_count other keys → other ≢ key) → IsChain links before keys after → IsChain (set links key link) before keys after
IsChain-set_other links key link before [] after apart chain = tt
IsChain-set_other links key link before (first ∷ keys) after apart chain = (
  get_or-set_other links key first link None (apart first (first_occurs first keys)) ∙ chain.0,
  IsChain-set_other links key link first keys after (λ other some. apart other (let all = key_count-cons other first keys in omega arith)) chain.1,
)

-- the last key of a chain gets another next one
pub IsChain-links_set_next : (links : List (Option Link)) (before : ℕ) (keys : List ℕ) (after to : ℕ) → ((key : ℕ) → key_count key keys ≤ 1) → IsChain links before keys after → IsChain (links_set_next links (last_or before keys) to) before keys to
IsChain-links_set_next links before [] after to at_most_once chain = tt
IsChain-links_set_next links before (key ∷ []) after to at_most_once chain = (
  get_or-set_same links key _ None (place_at_within links key _ chain.0) ∙ ap (option_map (λ (link : Link). record link { next = to })) chain.0,
  tt,
)
IsChain-links_set_next links before (key ∷ next ∷ keys) after to at_most_once chain =
    let one = hit_same key key refl in
    let only = at_most_once key in
    let all = key_count-cons key key (next ∷ keys) in
    let rest = key_count-cons key next keys in
    let none : key_count key (next ∷ keys) ≡ 0 = omega arith in
    let clear : key_count key keys ≡ 0 = omega arith in
    let apart : key ≢ next = λ is. (let hits = hit_same key next is in omega arith) in (
      get_or-set_other links (last_or next keys) key _ None (apart_from_last_or key next keys clear apart) ∙ chain.0,
      IsChain-links_set_next links key (next ∷ keys) after to (λ other. let most = at_most_once other in let count = key_count-cons other key (next ∷ keys) in omega arith) chain.1,
    )

-- the first key of a chain gets another previous one
pub IsChain-links_set_previous : (links : List (Option Link)) (before : ℕ) (keys : List ℕ) (after from : ℕ) → ((key : ℕ) → key_count key keys ≤ 1) → IsChain links before keys after → IsChain (links_set_previous links (first_or keys after) from) from keys after
IsChain-links_set_previous links before [] after from at_most_once chain = tt
IsChain-links_set_previous links before (key ∷ keys) after from at_most_once chain =
    let one = hit_same key key refl in
    let only = at_most_once key in
    let all = key_count-cons key key keys in (
      get_or-set_same links key _ None (place_at_within links key _ chain.0) ∙ ap (option_map (λ (link : Link). record link { previous = from })) chain.0,
      IsChain-set_other links key _ key keys after (λ other some is. (let same = ap (λ k. key_count k keys) is in omega arith)) chain.1,
    )

-- each key of a chain has the link of a free key
pub place_at-chain : (links : List (Option Link)) (before : ℕ) (keys : List ℕ) (after key : ℕ) → 0 < key_count key keys → IsChain links before keys after → (previous : ℕ) × (next : ℕ) × (place_at links key ≡ Some (free_link previous next))
place_at-chain links before [] after key some chain = let none : key_count key [] ≡ 0 = refl in absurd (omega arith)
place_at-chain links before (first ∷ keys) after key some chain = elim (cases_eq key first) [
  | inl here ↦ (before, first_or keys after, ap (place_at links) here ∙ chain.0)
  | inr there ↦ let none = hit_other key first there in let all = key_count-cons key first keys in place_at-chain links first keys after key (omega arith) chain.1
]

-- the keys of a chain are met from its first one, if the key after it is out of range
pub links_keys_from-chain : (links : List (Option Link)) (steps before : ℕ) (keys : List ℕ) (after : ℕ) → length keys ≤ steps → place_at links after ≡ None → IsChain links before keys after → links_keys_from steps links (first_or keys after) ≡ keys
links_keys_from-chain links zero before [] after fits none chain = refl
links_keys_from-chain links zero before (key ∷ keys) after fits none chain = absurd (omega arith)
links_keys_from-chain links (suc steps) before [] after fits none chain =
    ap (λ place. unwrap_or (option_map (λ (link : Link). after ∷ links_keys_from steps links link.next) place) []) none
links_keys_from-chain links (suc steps) before (key ∷ keys) after fits none chain =
    ap (λ place. unwrap_or (option_map (λ (link : Link). key ∷ links_keys_from steps links link.next) place) []) chain.0
    ∙ ap (λ ks. key ∷ ks) (links_keys_from-chain links steps key keys after (omega arith) none chain.1)
