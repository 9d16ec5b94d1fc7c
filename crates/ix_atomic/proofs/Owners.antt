-- Whose the places of a history are, where one seat of a table changes, is made, or is merged into another.
use Rattle.std.proofs.Common.{◌≡◌, ◌≢◌, ◌⊎◌, ℕ, zero, suc, List, [], ◌∷◌, ◌++◌, set, refl, sym, ◌∙◌, subst, ⊎_elim}
use Rattle.std.specs.List.{Contains}
use mathlib.Core.Option.{some, some-injective, some-ne-none}
use mathlib.Core.Logic.{dite}
use native.Mathlib.Decide.{ℕ_discrete}
use lib.ListN.{get_elem?}
use Rattle.atomic_table.proofs.Lists.{at_set, at_snoc, set_else, at_longer}
use Rattle.ix_atomic.specs.declared.sequenced.rule.SeatView.{SeatView}
use Rattle.ix_atomic.specs.inner.SequencedRule.{ApartSeats, HaveOwners}
use Rattle.ix_atomic.specs.inner.SequencedSteps.{view_merged, view_spent}
use Rattle.ix_atomic.proofs.OwnPlaces.{no_place, merge-left, merge-right, merge-cases}

module _ {T : Type 0} where
  pub at_itself : (views : List (SeatView T)) (seat : ℕ) (view view' : SeatView T) → get_elem? views seat ≡ some view → get_elem? (set views seat view') seat ≡ some view'
  at_itself [] seat view view' at = absurd (some-ne-none view (sym at))
  at_itself (first ∷ rest) zero view view' at = refl
  at_itself (first ∷ rest) (suc seat) view view' at = at_itself rest seat view view' at

  pub one_view : (views : List (SeatView T)) (seat : ℕ) (view view' : SeatView T) → get_elem? views seat ≡ some view → get_elem? views seat ≡ some view' → view ≡ view'
  one_view views seat view view' at at' = some-injective view view' (sym at ∙ at')

  -- the place is of no seat but this one
  abbrev pub IsNoOthers : List (SeatView T) → ℕ → ℕ → Type 0
  IsNoOthers views seat place = (other : ℕ) (view : SeatView T) → other ≢ seat → get_elem? views other ≡ some view → Contains view.places place → ⊥

  -- a seat has no place of another one, if each of its places was its own or nobody's
  not_of_others : (views : List (SeatView T)) (seat : ℕ) (view view' : SeatView T) → get_elem? views seat ≡ some view → ApartSeats views
      → ((place : ℕ) → Contains view'.places place → Contains view.places place ⊎ IsNoOthers views seat place)
      → (place : ℕ) → Contains view'.places place → IsNoOthers views seat place
  not_of_others views seat view view' at apart old_or_new place has other u differs there has' =
      ⊎_elim (λ (old : Contains view.places place). differs (apart other seat u view place there at has' old))
      (λ (new : IsNoOthers views seat place). new other u differs there has') (old_or_new place has)

  pub ApartSeats-set : (views : List (SeatView T)) (seat : ℕ) (view view' : SeatView T) → get_elem? views seat ≡ some view → ApartSeats views
      → ((place : ℕ) → Contains view'.places place → Contains view.places place ⊎ IsNoOthers views seat place)
      → ApartSeats (set views seat view')
  ApartSeats-set views seat view view' at apart old_or_new i j v w place at_i at_j of_i of_j = let mine = not_of_others views seat view view' at apart old_or_new place in
      ⊎_elim
      (λ (x : (i ≡ seat) × (view' ≡ v)). ⊎_elim (λ (y : (j ≡ seat) × (view' ≡ w)). x.0 ∙ sym y.0)
      (λ (y : (j ≢ seat) × (get_elem? views j ≡ some w)). absurd (mine (subst (λ (u : SeatView T). Contains u.places place) (sym x.1) of_i) j w y.0 y.1 of_j)) (at_set views seat j view' w at_j))
      (λ (x : (i ≢ seat) × (get_elem? views i ≡ some v)). ⊎_elim (λ (y : (j ≡ seat) × (view' ≡ w)). absurd (mine (subst (λ (u : SeatView T). Contains u.places place) (sym y.1) of_j) i v x.0 x.1 of_i))
      (λ (y : (j ≢ seat) × (get_elem? views j ≡ some w)). apart i j v w place x.1 y.1 of_i of_j) (at_set views seat j view' w at_j))
      (at_set views seat i view' v at_i)

  pub HaveOwners-set : (count : ℕ) (views : List (SeatView T)) (seat : ℕ) (view view' : SeatView T) → get_elem? views seat ≡ some view → HaveOwners count views
      → ((place : ℕ) → Contains view.places place → Contains view'.places place) → HaveOwners count (set views seat view')
  HaveOwners-set count views seat view view' at owners kept place above below = let t = owners place above below in dite (ℕ_discrete t.0 seat)
      (λ same. let is : view ≡ t.1 = one_view views seat view t.1 at (subst (λ s. get_elem? views s ≡ some t.1) same t.2) in
      (seat, view', at_itself views seat view view' at, kept place (subst (λ (u : SeatView T). Contains u.places place) (sym is) t.3)))
      (λ differs. (t.0, t.1, set_else views seat t.0 view' differs ∙ t.2, t.3))

  -- a further seat has no places
  pub ApartSeats-push : (views : List (SeatView T)) (view : SeatView T) → ApartSeats views → ((place : ℕ) → Contains view.places place → ⊥) → ApartSeats (views ++ view ∷ [])
  ApartSeats-push views view apart none i j v w place at_i at_j of_i of_j =
      ⊎_elim
      (λ (x : get_elem? views i ≡ some v). ⊎_elim (λ (y : get_elem? views j ≡ some w). apart i j v w place x y of_i of_j)
      (λ (y : view ≡ w). absurd (none place (subst (λ (u : SeatView T). Contains u.places place) (sym y) of_j))) (at_snoc views view w j at_j))
      (λ (x : view ≡ v). absurd (none place (subst (λ (u : SeatView T). Contains u.places place) (sym x) of_i)))
      (at_snoc views view v i at_i)

  pub HaveOwners-push : (count : ℕ) (views : List (SeatView T)) (view : SeatView T) → HaveOwners count views → HaveOwners count (views ++ view ∷ [])
  HaveOwners-push count views view owners place above below = let t = owners place above below in (t.0, t.1, at_longer views (view ∷ []) t.0 t.1 t.2, t.3)

  -- a seat takes in the places of another one
  pub ApartSeats-merge : (views : List (SeatView T)) (seat other : ℕ) (view view' : SeatView T) → get_elem? views seat ≡ some view → get_elem? views other ≡ some view' → other ≢ seat → ApartSeats views
      → ApartSeats (set (set views seat (view_merged view view')) other view_spent)
  ApartSeats-merge views seat other view view' at there differs apart i j v w place at_i at_j of_i of_j =
      ⊎_elim (λ (x : (i ≡ other) × (view_spent ≡ v)). absurd (no_place place (subst (λ (u : SeatView T). Contains u.places place) (sym x.1) of_i)))
      (λ (x : (i ≢ other) × (get_elem? merged i ≡ some v)). ⊎_elim (λ (y : (j ≡ other) × (view_spent ≡ w)). absurd (no_place place (subst (λ (u : SeatView T). Contains u.places place) (sym y.1) of_j)))
      (λ (y : (j ≢ other) × (get_elem? merged j ≡ some w)). ⊎_elim
      (λ (x' : (i ≡ seat) × (view_merged view view' ≡ v)). ⊎_elim (λ (y' : (j ≡ seat) × (view_merged view view' ≡ w)). x'.0 ∙ sym y'.0)
      (λ (y' : (j ≢ seat) × (get_elem? views j ≡ some w)). absurd (theirs j w y'.0 y.0 y'.1 (subst (λ (u : SeatView T). Contains u.places place) (sym x'.1) of_i) of_j)) (at_set views seat j (view_merged view view') w y.1))
      (λ (x' : (i ≢ seat) × (get_elem? views i ≡ some v)). ⊎_elim (λ (y' : (j ≡ seat) × (view_merged view view' ≡ w)). absurd (theirs i v x'.0 x.0 x'.1 (subst (λ (u : SeatView T). Contains u.places place) (sym y'.1) of_j) of_i))
      (λ (y' : (j ≢ seat) × (get_elem? views j ≡ some w)). apart i j v w place x'.1 y'.1 of_i of_j) (at_set views seat j (view_merged view view') w y.1))
      (at_set views seat i (view_merged view view') v x.1))
      (at_set merged other j view_spent w at_j))
      (at_set merged other i view_spent v at_i)
    where
      merged : List (SeatView T)
      merged = set views seat (view_merged view view')

      theirs : (k : ℕ) (u : SeatView T) → k ≢ seat → k ≢ other → get_elem? views k ≡ some u → Contains (view_merged view view').places place → Contains u.places place → ⊥
      theirs k u not_seat not_other at_k has has' = ⊎_elim (λ (t : Contains view.places place). not_seat (apart k seat u view place at_k at has' t))
          (λ (t : Contains view'.places place). not_other (apart k other u view' place at_k there has' t)) (merge-cases view.places view'.places place has)

  pub HaveOwners-merge : (count : ℕ) (views : List (SeatView T)) (seat other : ℕ) (view view' : SeatView T) → get_elem? views seat ≡ some view → get_elem? views other ≡ some view' → other ≢ seat
      → HaveOwners count views → HaveOwners count (set (set views seat (view_merged view view')) other view_spent)
  HaveOwners-merge count views seat other view view' at there differs owners place above below = let t = owners place above below in
      let merged : SeatView T = view_merged view view' in
      let mine : get_elem? (set (set views seat merged) other view_spent) seat ≡ some merged = set_else (set views seat merged) other seat view_spent (λ same. differs (sym same)) ∙ at_itself views seat view merged at in
      dite (ℕ_discrete t.0 seat)
      (λ same. let is : view ≡ t.1 = one_view views seat view t.1 at (subst (λ s. get_elem? views s ≡ some t.1) same t.2) in
      (seat, merged, mine, merge-left view.places view'.places place (subst (λ (u : SeatView T). Contains u.places place) (sym is) t.3)))
      (λ not_seat. dite (ℕ_discrete t.0 other)
      (λ same. let is : view' ≡ t.1 = one_view views other view' t.1 there (subst (λ s. get_elem? views s ≡ some t.1) same t.2) in
      (seat, merged, mine, merge-right view.places view'.places place (subst (λ (u : SeatView T). Contains u.places place) (sym is) t.3)))
      (λ not_other. (t.0, t.1, set_else (set views seat merged) other t.0 view_spent not_other ∙ (set_else views seat t.0 merged not_seat ∙ t.2), t.3)))
