-- The shares of all seats add up to the whole right to write, so a seat that has the whole leaves none to another.
use Rattle.std.proofs.Common.{◌≡◌, ◌≢◌, ℕ, zero, suc, ◌+◌, ◌-◌, ◌*◌, ◌^◌, ◌<◌, ◌≤◌, List, [], ◌∷◌, ◌++◌, length, set, refl, sym, ap, ◌∙◌, subst, arith}
use Rattle.std.proofs.Math.Nat.{pow-succ'}
use Rattle.std.proofs.lemmas.Nat.{pow_pos}
use mathlib.Core.Option.{some, some-injective, some-ne-none}
use lib.ListN.{get_elem?}
use Rattle.atomic_table.proofs.Lists.{set_else}
use Rattle.ix_atomic.specs.declared.sequenced.rule.SeatView.{SeatView}
use Rattle.ix_atomic.specs.Shares.{halved, AreWithin, units, IsWhole}
use Rattle.ix_atomic.specs.inner.SequencedRule.{AllWithin, all_units, AreDealt}
use Rattle.ix_atomic.specs.inner.SequencedSteps.{view_merged, view_spent}

units-append : (depth : ℕ) (xs ys : List ℕ) → units depth (xs ++ ys) ≡ units depth xs + units depth ys
units-append depth [] ys = omega arith
units-append depth (part ∷ xs) ys = let rest = units-append depth xs ys in omega (arith, rest)

AreWithin-append : (depth : ℕ) (xs ys : List ℕ) → AreWithin depth xs → AreWithin depth ys → AreWithin depth (xs ++ ys)
AreWithin-append depth [] ys within within' = within'
AreWithin-append depth (part ∷ xs) ys within within' = (within.0, AreWithin-append depth xs ys within.1 within')

units-halved : (depth : ℕ) (share : List ℕ) → units (suc depth) (halved share) ≡ units depth share
units-halved depth [] = refl
units-halved depth (part ∷ share) = let same : suc depth - suc part ≡ depth - part = omega arith in
    λ i. 2 ^ same i + units-halved depth share i

AreWithin-halved : (depth : ℕ) (share : List ℕ) → AreWithin depth share → AreWithin (suc depth) (halved share)
AreWithin-halved depth [] within = within
AreWithin-halved depth (part ∷ share) within = (let least = within.0 in omega (arith, least), AreWithin-halved depth share within.1)

AreWithin-deeper : (depth : ℕ) (share : List ℕ) → AreWithin depth share → AreWithin (suc depth) share
AreWithin-deeper depth [] within = within
AreWithin-deeper depth (part ∷ share) within = (let least = within.0 in omega (arith, least), AreWithin-deeper depth share within.1)

units-deeper : (depth : ℕ) (share : List ℕ) → AreWithin depth share → units (suc depth) share ≡ 2 * units depth share
units-deeper depth [] within = refl
units-deeper depth (part ∷ share) within =
    let least = within.0 in let next : suc depth - part ≡ suc (depth - part) = omega (arith, least) in
    let double : 2 ^ (suc depth - part) ≡ 2 * 2 ^ (depth - part) = ap (λ n. 2 ^ n) next ∙ pow-succ' 2 (depth - part) in
    let rest = units-deeper depth share within.1 in omega (arith, double, rest)

units-some : (depth : ℕ) (share : List ℕ) → 0 < length share → 0 < units depth share
units-some depth [] some_part = absurd (omega (arith, some_part))
units-some depth (part ∷ share) some_part = let positive = pow_pos (depth - part) in omega (arith, positive)

abbrev AreWholeAt : ℕ → List ℕ → Type 0
AreWholeAt depth share = AreWithin depth share × (units depth share ≡ 2 ^ depth)

abbrev deeper : ℕ → ℕ → ℕ
deeper zero depth = depth
deeper (suc more) depth = suc (deeper more depth)

deeper-sum : (more depth : ℕ) → deeper more depth ≡ more + depth
deeper-sum zero depth = omega arith
deeper-sum (suc more) depth = let rest = deeper-sum more depth in omega (arith, rest)

whole-deeper : (more depth : ℕ) (share : List ℕ) → AreWholeAt depth share → AreWholeAt (deeper more depth) share
whole-deeper zero depth share whole = whole
whole-deeper (suc more) depth share whole = let deep = whole-deeper more depth share whole in let at : ℕ = deeper more depth in
    (AreWithin-deeper at share deep.0, units-deeper at share deep.0 ∙ ap (λ n. 2 * n) deep.1 ∙ sym (pow-succ' 2 at))

pub halved-some : (share : List ℕ) → 0 < length share → 0 < length (halved share)
halved-some [] some_part = some_part
halved-some (part ∷ share) some_part = omega arith

pub some-append : (xs ys : List ℕ) → 0 < length xs → 0 < length (xs ++ ys)
some-append [] ys some_part = absurd (omega (arith, some_part))
some-append (part ∷ xs) ys some_part = omega arith

pub some-append_right : (xs ys : List ℕ) → 0 < length ys → 0 < length (xs ++ ys)
some-append_right [] ys some_part = some_part
some-append_right (part ∷ xs) ys some_part = omega arith

module _ {T : Type 0} where
  within_at : (depth : ℕ) (views : List (SeatView T)) (seat : ℕ) (view : SeatView T) → get_elem? views seat ≡ some view → AllWithin depth views → AreWithin depth view.share
  within_at depth [] seat view at within = absurd (some-ne-none view (sym at))
  within_at depth (first ∷ views) zero view at within = subst (λ (v : SeatView T). AreWithin depth v.share) (some-injective first view at) within.0
  within_at depth (first ∷ views) (suc seat) view at within = within_at depth views seat view at within.1

  units_at : (depth : ℕ) (views : List (SeatView T)) (seat : ℕ) (view : SeatView T) → get_elem? views seat ≡ some view → units depth view.share ≤ all_units depth views
  units_at depth [] seat view at = absurd (some-ne-none view (sym at))
  units_at depth (first ∷ views) zero view at = let same = ap (λ (v : SeatView T). units depth v.share) (some-injective first view at) in omega (arith, same)
  units_at depth (first ∷ views) (suc seat) view at = let rest = units_at depth views seat view at in omega (arith, rest)

  AllWithin-set : (depth : ℕ) (views : List (SeatView T)) (seat : ℕ) (view : SeatView T) → AllWithin depth views → AreWithin depth view.share → AllWithin depth (set views seat view)
  AllWithin-set depth [] seat view within mine = within
  AllWithin-set depth (first ∷ views) zero view within mine = (mine, within.1)
  AllWithin-set depth (first ∷ views) (suc seat) view within mine = (within.0, AllWithin-set depth views seat view within.1 mine)

  all_units-set : (depth : ℕ) (views : List (SeatView T)) (seat : ℕ) (view view' : SeatView T) → get_elem? views seat ≡ some view
      → all_units depth (set views seat view') + units depth view.share ≡ all_units depth views + units depth view'.share
  all_units-set depth [] seat view view' at = absurd (some-ne-none view (sym at))
  all_units-set depth (first ∷ views) zero view view' at = let same = ap (λ (v : SeatView T). units depth v.share) (some-injective first view at) in omega (arith, same)
  all_units-set depth (first ∷ views) (suc seat) view view' at = let rest = all_units-set depth views seat view view' at in omega (arith, rest)

  AllWithin-push : (depth : ℕ) (views : List (SeatView T)) (view : SeatView T) → AllWithin depth views → AreWithin depth view.share → AllWithin depth (views ++ view ∷ [])
  AllWithin-push depth [] view within mine = (mine, tt)
  AllWithin-push depth (first ∷ views) view within mine = (within.0, AllWithin-push depth views view within.1 mine)

  all_units-push : (depth : ℕ) (views : List (SeatView T)) (view : SeatView T) → all_units depth (views ++ view ∷ []) ≡ all_units depth views + units depth view.share
  all_units-push depth [] view = omega arith
  all_units-push depth (first ∷ views) view = let rest = all_units-push depth views view in omega (arith, rest)

  AllWithin-deeper : (depth : ℕ) (views : List (SeatView T)) → AllWithin depth views → AllWithin (suc depth) views
  AllWithin-deeper depth [] within = within
  AllWithin-deeper depth (view ∷ views) within = (AreWithin-deeper depth view.share within.0, AllWithin-deeper depth views within.1)

  all_units-deeper : (depth : ℕ) (views : List (SeatView T)) → AllWithin depth views → all_units (suc depth) views ≡ 2 * all_units depth views
  all_units-deeper depth [] within = refl
  all_units-deeper depth (view ∷ views) within = let first = units-deeper depth view.share within.0 in let rest = all_units-deeper depth views within.1 in omega (arith, first, rest)

  abbrev AreDealtAt : ℕ → List (SeatView T) → Type 0
  AreDealtAt depth views = AllWithin depth views × (all_units depth views ≡ 2 ^ depth)

  dealt-deeper : (more depth : ℕ) (views : List (SeatView T)) → AreDealtAt depth views → AreDealtAt (deeper more depth) views
  dealt-deeper zero depth views dealt = dealt
  dealt-deeper (suc more) depth views dealt = let deep = dealt-deeper more depth views dealt in let at : ℕ = deeper more depth in
      (AllWithin-deeper at views deep.0, all_units-deeper at views deep.0 ∙ ap (λ n. 2 * n) deep.1 ∙ sym (pow-succ' 2 at))

  -- a step leaves the seat its share
  pub AreDealt-set : (views : List (SeatView T)) (seat : ℕ) (view view' : SeatView T) → get_elem? views seat ≡ some view → view'.share ≡ view.share → AreDealt views → AreDealt (set views seat view')
  AreDealt-set views seat view view' at same dealt = let depth = dealt.0 in
      let change = all_units-set depth views seat view view' at in let equal = ap (units depth) same in let total = dealt.2 in
      (depth, AllWithin-set depth views seat view' dealt.1 (subst (AreWithin depth) (sym same) (within_at depth views seat view at dealt.1)), omega (arith, change, equal, total))

  -- a further seat with no share
  pub AreDealt-push : (views : List (SeatView T)) (view : SeatView T) → view.share ≡ [] → AreDealt views → AreDealt (views ++ view ∷ [])
  AreDealt-push views view none dealt = let depth = dealt.0 in
      let push = all_units-push depth views view in let zero_units = ap (units depth) none in let total = dealt.2 in
      (depth, AllWithin-push depth views view dealt.1 (subst (AreWithin depth) (sym none) tt), omega (arith, push, zero_units, total))

  -- a share is halved, and a further seat has one half
  pub AreDealt-halved : (views : List (SeatView T)) (seat : ℕ) (view left right : SeatView T) → get_elem? views seat ≡ some view → left.share ≡ halved view.share → right.share ≡ halved view.share
      → AreDealt views → AreDealt (set views seat left ++ right ∷ [])
  AreDealt-halved views seat view left right at is_left is_right dealt = let depth = dealt.0 in let within = within_at depth views seat view at dealt.1 in
      let half = AreWithin-halved depth view.share within in
      let change = all_units-set (suc depth) views seat view left at in let push = all_units-push (suc depth) (set views seat left) right in
      let one = ap (units (suc depth)) is_left ∙ units-halved depth view.share in let two = ap (units (suc depth)) is_right ∙ units-halved depth view.share in
      let double = all_units-deeper depth views dealt.1 in let mine = units-deeper depth view.share within in let total = dealt.2 in let power = pow-succ' 2 depth in (
        suc depth,
        AllWithin-push (suc depth) (set views seat left) right (AllWithin-set (suc depth) views seat left (AllWithin-deeper depth views dealt.1) (subst (AreWithin (suc depth)) (sym is_left) half))
            (subst (AreWithin (suc depth)) (sym is_right) half),
        omega (arith, change, push, one, two, double, mine, total, power),
      )

  -- a seat takes in the share of another one
  pub AreDealt-merge : (views : List (SeatView T)) (seat other : ℕ) (view view' : SeatView T) → get_elem? views seat ≡ some view → get_elem? (set views seat (view_merged view view')) other ≡ some view' → get_elem? views other ≡ some view'
      → AreDealt views → AreDealt (set (set views seat (view_merged view view')) other view_spent)
  AreDealt-merge views seat other view view' at there there' dealt = let depth = dealt.0 in let merged : SeatView T = view_merged view view' in let total = dealt.2 in
      let first = all_units-set depth views seat view merged at in let second = all_units-set depth (set views seat merged) other view' view_spent there in
      let sum = units-append depth view.share view'.share in (
        depth,
        AllWithin-set depth (set views seat merged) other view_spent (AllWithin-set depth views seat merged dealt.1
            (AreWithin-append depth view.share view'.share (within_at depth views seat view at dealt.1) (within_at depth views other view' there' dealt.1))) tt,
        omega (arith, first, second, sum, total),
      )

  -- beside a seat that has the whole no other has a share
  pub whole-alone : (views : List (SeatView T)) (seat other : ℕ) (view view' : SeatView T) → AreDealt views → IsWhole view.share → get_elem? views seat ≡ some view → get_elem? views other ≡ some view' → other ≢ seat
      → 0 < length view'.share → ⊥
  whole-alone views seat other view view' dealt whole at there differs some_part =
      let depth = deeper whole.0 dealt.0 in
      let all = dealt-deeper whole.0 dealt.0 views (dealt.1, dealt.2) in
      let mine : units depth view.share ≡ 2 ^ depth = subst (λ n. units n view.share ≡ 2 ^ n) (let here = deeper-sum dealt.0 whole.0 in let same = deeper-sum whole.0 dealt.0 in omega (arith, here, same)) (whole-deeper dealt.0 whole.0 view.share (whole.1, whole.2)).1 in
      let total : all_units depth views ≡ 2 ^ depth = all.1 in
      let without = all_units-set depth views seat view view_spent at in
      let theirs = units_at depth (set views seat view_spent) other view' (set_else views seat other view_spent differs ∙ there) in
      let some_unit = units-some depth view'.share some_part in
      omega (arith, mine, total, without, theirs, some_unit)
