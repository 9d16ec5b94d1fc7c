-- The chains of a hash map's table of links, and how the write of one link changes them.
use Rattle.std.proofs.Common.{◌≡◌, ◌≢◌, ℕ, zero, suc, ◌+◌, ◌*◌, ◌/◌, ◌%◌, ◌<◌, ◌≤◌, inl, inr, List, [], ◌∷◌, ◌++◌, length, get_or, set, true, false, refl, sym, ap, ◌∙◌, subst, arith}
use Rattle.std.specs.Prelude.{nat_eq, if◌then◌else◌}
use Rattle.std.proofs.lemmas.Bool.{cases_eq, cases_lt}
use Rattle.std.proofs.lemmas.Bool.Decides.{nat_tests}
use Rattle.std.proofs.lemmas.List.{get_or-set_same, get_or-set_other, get_or-replicate, length-set, set_past, length-append}
use Rattle.ix_hashmap.specs.declared.hashmap.chain_link.ChainLink.{ChainLink}
use Rattle.ix_hashmap.specs.inner.HashChains.{no_place, no_link, link_head, link_set_head, head_at, next_at, links_set_head, links_set_next, places_met, chain_from, chain_at, IsLinked, IsChain, IsChainFrom, IsOnChain, IsBefore, IsUnlinked}
use Rattle.ix_slottable.proofs.FreeKeys.{key_count, key_count-cons, hit, hit_same, hit_other, key_count-append, split_at_key, first_occurs}

-- a write that keeps a part of the link keeps that part of all links
part-set : (part : ChainLink → ℕ) (links : List ChainLink) (i : ℕ) (link : ChainLink) → part link ≡ part (get_or links i no_link) → (other : ℕ) → part (get_or (set links i link) other no_link) ≡ part (get_or links other no_link)
part-set part links i link same other = elim (cases_eq other i) [
  | inl here ↦ elim (cases_lt i (length links)) [
    | inl below ↦ ap (λ j. part (get_or (set links i link) j no_link)) here ∙ ap part (get_or-set_same links i link no_link below) ∙ same ∙ ap (λ j. part (get_or links j no_link)) (sym here)
    | inr past ↦ ap (λ ls. part (get_or ls other no_link)) (set_past links i link past)
  ]
  | inr there ↦ ap part (get_or-set_other links i other link no_link there)
]

head-set_head_other : (link : ChainLink) (bucket place other : ℕ) → other / 4 ≡ bucket / 4 → other ≢ bucket → link_head (link_set_head link bucket place) other ≡ link_head link other
head-set_head_other link bucket place other same apart =
    get_or-set_other link.heads (bucket % 4) (other % 4) place no_place (λ equal. apart (omega (arith, same, equal)))

pub link_head-none : (bucket : ℕ) → link_head no_link bucket ≡ no_place
link_head-none bucket = get_or-replicate 4 (bucket % 4) no_place no_place (omega arith)

pub length-set_head : (links : List ChainLink) (bucket place : ℕ) → length (links_set_head links bucket place) ≡ length links
length-set_head links bucket place = length-set links (bucket / 4) _

pub length-set_next : (links : List ChainLink) (place next : ℕ) → length (links_set_next links place next) ≡ length links
length-set_next links place next = length-set links place _

pub next_at-set_head : (links : List ChainLink) (bucket place other : ℕ) → next_at (links_set_head links bucket place) other ≡ next_at links other
next_at-set_head links bucket place other =
    part-set (λ link. link.next) links (bucket / 4) _ refl other

pub head_at-set_next : (links : List ChainLink) (place next other : ℕ) → head_at (links_set_next links place next) other ≡ head_at links other
head_at-set_next links place next other = part-set (λ link. link_head link other) links place _ refl (other / 4)

-- a link in the table that has this head
pub head_at-set : (links : List ChainLink) (bucket place : ℕ) (link : ChainLink) → bucket < 4 * length links → link_head link bucket ≡ place → head_at (set links (bucket / 4) link) bucket ≡ place
head_at-set links bucket place link below has =
    ap (λ (at : ChainLink). link_head at bucket) (get_or-set_same links (bucket / 4) link no_link (omega (arith, below))) ∙ has

pub head_at-set_head_other : (links : List ChainLink) (bucket place other : ℕ) → other ≢ bucket → head_at (links_set_head links bucket place) other ≡ head_at links other
head_at-set_head_other links bucket place other apart = elim (cases_eq (other / 4) (bucket / 4)) [
  | inl same ↦ elim (cases_lt (bucket / 4) (length links)) [
    | inl below ↦
        ap (λ i. link_head (get_or (links_set_head links bucket place) i no_link) other) same
        ∙ ap (λ (link : ChainLink). link_head link other) (get_or-set_same links (bucket / 4) _ no_link below)
        ∙ head-set_head_other (get_or links (bucket / 4) no_link) bucket place other same apart
        ∙ ap (λ i. link_head (get_or links i no_link) other) (sym same)
    | inr past ↦ ap (λ ls. head_at ls other) (set_past links (bucket / 4) _ past)
  ]
  | inr there ↦ ap (λ (link : ChainLink). link_head link other) (get_or-set_other links (bucket / 4) (other / 4) _ no_link there)
]

pub next_at-set_next : (links : List ChainLink) (place next : ℕ) → place < length links → next_at (links_set_next links place next) place ≡ next
next_at-set_next links place next below = ap (λ (link : ChainLink). link.next) (get_or-set_same links place _ no_link below)

pub next_at-set_next_other : (links : List ChainLink) (place next other : ℕ) → other ≢ place → next_at (links_set_next links place next) other ≡ next_at links other
next_at-set_next_other links place next other apart = ap (λ (link : ChainLink). link.next) (get_or-set_other links place other _ no_link apart)

-- places stay linked if each of them keeps its next one
pub IsLinked-kept : (links new : List ChainLink) (first : ℕ) (places : List ℕ) → ((place : ℕ) → 0 < key_count place places → next_at new place ≡ next_at links place) → IsLinked links first places → IsLinked new first places
IsLinked-kept links new first [] same linked = linked
IsLinked-kept links new first (place ∷ places) same linked = (
  linked.0,
  subst (λ next. IsLinked new next places) (sym (same place (first_occurs place places)))
      (IsLinked-kept links new (next_at links place) places (λ other some. same other (let all = key_count-cons other place places in omega arith)) linked.1),
)

-- where a place is followed by the one after the next one, that one is left out
pub IsLinked-skips : (links : List ChainLink) (first : ℕ) (front : List ℕ) (place next : ℕ) (back : List ℕ) → place < length links → key_count place (front ++ place ∷ next ∷ back) ≤ 1 → IsLinked links first (front ++ place ∷ next ∷ back)
    → IsLinked (links_set_next links place (next_at links next)) first (front ++ place ∷ back)
IsLinked-skips links first [] place next back below once linked =
    let one = hit_same place place refl in
    let all = key_count-cons place place (next ∷ back) in
    let rest = key_count-cons place next back in
    let apart : (other : ℕ) → 0 < key_count other back → other ≢ place = λ other some is. (let moved = ap (λ k. key_count k back) is in omega arith) in (
      linked.0,
      subst (λ to. IsLinked (links_set_next links place (next_at links next)) to back) (sym (next_at-set_next links place (next_at links next) below))
          (IsLinked-kept links _ (next_at links next) back (λ other some. next_at-set_next_other links place (next_at links next) other (apart other some)) linked.1.1),
    )
IsLinked-skips links first (other ∷ front) place next back below once linked =
    let one = hit_same place place refl in
    let all = key_count-cons place other (front ++ place ∷ next ∷ back) in
    let parts = key_count-append place front (place ∷ next ∷ back) in
    let later = key_count-cons place place (next ∷ back) in
    let apart : other ≢ place = λ is. (let hits = hit_same place other (sym is) in omega arith) in (
      linked.0,
      subst (λ to. IsLinked (links_set_next links place (next_at links next)) to (front ++ place ∷ back)) (sym (next_at-set_next_other links place (next_at links next) other apart))
          (IsLinked-skips links (next_at links other) front place next back below (omega arith) linked.1),
    )

-- places of which each comes once are at most as many as the numbers that they are below
pub length-once_below : (n : ℕ) (places : List ℕ) → ((place : ℕ) → key_count place places ≤ 1) → ((place : ℕ) → 0 < key_count place places → place < n) → length places ≤ n
length-once_below zero [] once within = omega arith
length-once_below zero (place ∷ places) once within = let below = within place (first_occurs place places) in absurd (omega arith)
length-once_below (suc n) places once within = elim (cases_eq (key_count n places) 0) [
  | inl none ↦
      let fewer = length-once_below n places once (λ place some. (let below = within place some in let apart : place ≢ n = λ is. (let moved = ap (λ k. key_count k places) is in omega arith) in omega arith)) in
      omega arith
  | inr some ↦
      let at = split_at_key n places (omega arith) in
      let one = hit_same n n refl in
      let counts : (place : ℕ) → key_count place places ≡ key_count place at.front + (hit place n + key_count place at.back) = λ place. (
      ap (key_count place) at.is ∙ key_count-append place at.front (n ∷ at.back) ∙ ap (λ k. key_count place at.front + k) (key_count-cons place n at.back)
      ) in
      let parts : (place : ℕ) → key_count place (at.front ++ at.back) ≡ key_count place at.front + key_count place at.back = λ place. key_count-append place at.front at.back in
      let fewer = length-once_below n (at.front ++ at.back)
      (λ place. (let all = counts place in let both = parts place in let most = once place in omega arith))
      (λ place occurs. (
      let all = counts place in let both = parts place in
      let below = within place (omega arith) in
      let apart : place ≢ n = λ is. (let hits = hit_same place n is in let most = once place in omega arith) in omega arith
      )) in
      let as_long = ap length at.is ∙ length-append at.front (n ∷ at.back) in
      let shorter = length-append at.front at.back in omega arith
]

-- what is met from the first of linked places on is these places
places_met-linked : (links : List ChainLink) (steps first : ℕ) (places : List ℕ) → IsLinked links first places → length places ≤ steps → ((place : ℕ) → 0 < key_count place places → place ≢ no_place) → places_met steps links first ≡ places
places_met-linked links zero first [] linked fits known = refl
places_met-linked links zero first (place ∷ places) linked fits known = absurd (omega arith)
places_met-linked links (suc steps) first [] linked fits known =
    let yes : nat_eq first no_place ≡ true = grind (arith, nat_tests) in
    ap (λ b. if b then [] else (first ∷ places_met steps links (next_at links first))) yes
places_met-linked links (suc steps) first (place ∷ places) linked fits known =
    let is = linked.0 in
    let apart = known place (first_occurs place places) in
    let no : nat_eq first no_place ≡ false = grind (arith, nat_tests) in
    ap (λ b. if b then [] else (first ∷ places_met steps links (next_at links first))) no
    ∙ ap (λ p. p ∷ places_met steps links (next_at links p)) is
    ∙ ap (λ ps. place ∷ ps) (places_met-linked links steps (next_at links place) places linked.1 (omega arith) (λ other some. known other (let all = key_count-cons other place places in omega arith)))

pub chain_from-IsChain : (links : List ChainLink) (first : ℕ) (places : List ℕ) → IsChain links first places → chain_from links first ≡ places
chain_from-IsChain links first places chain =
    let fits = chain.fits in
    places_met-linked links (length links) first places chain.linked (length-once_below (length links) places chain.once chain.within)
    (λ place some. (let below = chain.within place some in λ is. omega arith))

pub IsChainFrom-of : (links : List ChainLink) (first : ℕ) (places : List ℕ) → IsChain links first places → IsChainFrom links first
IsChainFrom-of links first places chain = subst (IsChain links first) (sym (chain_from-IsChain links first places chain)) chain

-- the places after the first one of a chain
pub record HasRest (links : List ChainLink) (first : ℕ) : Type 0 where
  pub is : chain_from links first ≡ first ∷ chain_from links (next_at links first)
  pub rest : IsChainFrom links (next_at links first)

pub HasRest-from : (links : List ChainLink) (first : ℕ) → IsChainFrom links first → first ≢ no_place → HasRest links first
HasRest-from links first chain apart = go (chain_from links first) refl
  where
    go : (places : List ℕ) → chain_from links first ≡ places → HasRest links first
    go [] none = absurd (apart (subst (IsLinked links first) none chain.linked))
    go (place ∷ places) some =
        let all = subst (IsChain links first) some chain in
        let is = all.linked.0 in
        let rest : IsChain links (next_at links first) places = record {
          linked = subst (λ p. IsLinked links (next_at links p) places) (sym is) all.linked.1;
          once = λ other. (let most = all.once other in let counts = key_count-cons other place places in omega arith);
          within = λ other occurs. all.within other (let counts = key_count-cons other place places in omega arith);
          fits = all.fits;
        } in record {
          is = some ∙ ap (λ p. p ∷ places) (sym is) ∙ ap (λ ps. first ∷ ps) (sym (chain_from-IsChain links (next_at links first) places rest));
          rest = IsChainFrom-of links (next_at links first) places rest;
        }

-- a chain begins at no place only if it has none
pub empty_chain : (links : List ChainLink) (first : ℕ) → IsChainFrom links first → first ≡ no_place → (place : ℕ) → IsOnChain links first place → ⊥
empty_chain links first chain none place on = go (chain_from links first) refl
  where
    go : (places : List ℕ) → chain_from links first ≡ places → ⊥
    go [] is = let no : 0 < key_count place [] = subst (λ ps. 0 < key_count place ps) is on in let zero_count : key_count place [] ≡ 0 = refl in absurd (omega arith)
    go (other ∷ places) is =
        let all = subst (IsChain links first) is chain in
        let at = all.linked.0 in
        let below = all.within other (first_occurs other places) in
        let fits = all.fits in absurd (omega arith)

-- a chain that has a place begins at a place
pub begins_at_place : (links : List ChainLink) (first place : ℕ) → IsChainFrom links first → IsOnChain links first place → first ≢ no_place
begins_at_place links first place chain on none = empty_chain links first chain none place on

pub on_chain-first : (links : List ChainLink) (first : ℕ) → IsChainFrom links first → first ≢ no_place → IsOnChain links first first
on_chain-first links first chain apart =
    subst (λ ps. 0 < key_count first ps) (sym (HasRest-from links first chain apart).is) (first_occurs first (chain_from links (next_at links first)))

pub first_within : (links : List ChainLink) (first place : ℕ) → IsChainFrom links first → IsOnChain links first place → first < length links
first_within links first place chain on = chain.within first (on_chain-first links first chain (begins_at_place links first place chain on))

-- a place that is not the first comes later
pub on_chain-next : (links : List ChainLink) (first place : ℕ) → IsChainFrom links first → IsOnChain links first place → first ≢ place → IsOnChain links (next_at links first) place
on_chain-next links first place chain on apart =
    let more = HasRest-from links first chain (begins_at_place links first place chain on) in
    let none = hit_other place first (λ is. apart (sym is)) in
    let counts = ap (key_count place) more.is ∙ key_count-cons place first (chain_from links (next_at links first)) in omega arith

-- the first place leaves its chain
pub IsUnlinked-first : (links : List ChainLink) (bucket place : ℕ) (new : List ChainLink) → IsChainFrom links (head_at links bucket) → IsOnChain links (head_at links bucket) place → head_at links bucket ≡ place → new ≡ links_set_head links bucket (next_at links place) → head_at new bucket ≡ next_at links place → IsUnlinked links bucket place new
IsUnlinked-first links bucket place new chain on is made head =
    let to = next_at links place in
    let more = HasRest-from links (head_at links bucket) chain (begins_at_place links (head_at links bucket) place chain on) in
    let rest = chain_from links to in
    let whole : chain_at links bucket ≡ place ∷ rest = more.is ∙ ap (λ p. p ∷ chain_from links (next_at links p)) is in
    let chained : IsChainFrom links to = subst (λ p. IsChainFrom links (next_at links p)) is more.rest in
    subst (IsUnlinked links bucket place) (sym made) (record {
      lengths = length-set_head links bucket to;
      rest = rest;
      linked = subst (λ first. IsLinked (links_set_head links bucket to) first rest) (sym (ap (λ ls. head_at ls bucket) (sym made) ∙ head))
          (IsLinked-kept links _ to rest (λ other occurs. next_at-set_head links bucket to other) chained.linked);
      counts = λ other. sym (ap (key_count other) whole);
      heads = λ other apart. head_at-set_head_other links bucket to other apart;
      nexts = λ other absent. next_at-set_head links bucket to other;
    })

-- a later place leaves its chain
pub IsUnlinked-later : (links : List ChainLink) (bucket place previous : ℕ) (new : List ChainLink) → IsChainFrom links (head_at links bucket) → IsBefore links (head_at links bucket) previous place → new ≡ links_set_next links previous (next_at links place) → IsUnlinked links bucket place new
IsUnlinked-later links bucket place previous new chain at made =
    let to = next_at links place in
    let front = at.front in let back = at.back in
    let all = subst (IsChain links (head_at links bucket)) at.is chain in
    let one = hit_same previous previous refl in
    let here : key_count previous (front ++ previous ∷ place ∷ back) ≡ key_count previous front + (hit previous previous + key_count previous (place ∷ back)) =
    key_count-append previous front (previous ∷ place ∷ back) ∙ ap (λ k. key_count previous front + k) (key_count-cons previous previous (place ∷ back)) in
    let within = all.within previous (omega arith) in
    subst (IsUnlinked links bucket place) (sym made) (record {
      lengths = length-set links previous _;
      rest = front ++ previous ∷ back;
      linked = subst (λ first. IsLinked (links_set_next links previous to) first (front ++ previous ∷ back)) (sym (head_at-set_next links previous to bucket))
          (IsLinked-skips links (head_at links bucket) front previous place back within (all.once previous) all.linked);
      counts = λ other.
          let whole = ap (key_count other) at.is ∙ key_count-append other front (previous ∷ place ∷ back) in
          let later = key_count-cons other previous (place ∷ back) in
          let last = key_count-cons other place back in
          let first = key_count-cons other place (front ++ previous ∷ back) in
          let parts = key_count-append other front (previous ∷ back) in
          let back_counts = key_count-cons other previous back in omega arith;
      heads = λ other apart. head_at-set_next links previous to other;
      nexts = λ other absent. next_at-set_next_other links previous to other (λ is.
          let whole = ap (key_count other) at.is ∙ ap (λ k. key_count k (front ++ previous ∷ place ∷ back)) is in omega arith);
    })

-- a place is on the chain after the first one, which `next` follows
pub record IsFollowed (links : List ChainLink) (first place next : ℕ) : Type 0 where
  pub is : chain_from links first ≡ first ∷ chain_from links next
  pub chain : IsChainFrom links next
  pub has : IsOnChain links next place
  pub within : next < length links

pub IsFollowed-from : (links : List ChainLink) (first place next : ℕ) → IsChainFrom links first → IsOnChain links first place → first ≢ place → next ≡ next_at links first → IsFollowed links first place next
IsFollowed-from links first place next chain on apart follows =
    let more = HasRest-from links first chain (begins_at_place links first place chain on) in
    let has = on_chain-next links first place chain on apart in
    subst (IsFollowed links first place) (sym follows) (record { is = more.is; chain = more.rest; has = has; within = first_within links (next_at links first) place more.rest has })

-- the place before another one was found
pub IsBefore-from : (links : List ChainLink) (first previous place next : ℕ) (front : List ℕ) → chain_from links first ≡ front ++ chain_from links previous → IsFollowed links previous place next → next ≡ place → IsBefore links first previous place
IsBefore-from links first previous place next front walked follows found =
    let more = HasRest-from links next follows.chain (begins_at_place links next place follows.chain follows.has) in
    subst (IsBefore links first previous) found (record {
      front = front;
      back = chain_from links (next_at links next);
      is = walked ∙ ap (λ ps. front ++ ps) (follows.is ∙ ap (λ ps. previous ∷ ps) more.is);
    })

-- the place before another one is of the table
pub IsBefore-within : (links : List ChainLink) (first previous place : ℕ) → IsChainFrom links first → IsBefore links first previous place → previous < length links
IsBefore-within links first previous place chain at =
    let one = hit_same previous previous refl in
    let whole = ap (key_count previous) at.is ∙ key_count-append previous at.front (previous ∷ place ∷ at.back) in
    let here = key_count-cons previous previous (place ∷ at.back) in
    chain.within previous (omega arith)
