-- Values that stand in a history stay where they are, and a seat that wrote all of it knows it.
use Rattle.std.proofs.Common.{◌≡◌, ℕ, zero, suc, ◌+◌, ◌-◌, ◌/◌, ◌<◌, ◌≤◌, List, [], ◌∷◌, ◌++◌, length, drop, get_or, Some, None, refl, sym, ap, ◌∙◌, subst, ◌⊎◌, inl, inr, ⊎_elim, arith, add-one, All}
use Rattle.std.specs.Prelude.{slice_get}
use Rattle.std.proofs.lemmas.Option.{slice_get_within, slice_get-get_or, get_or_from_slice_get}
use Rattle.std.proofs.lemmas.List.{get_or-map, get_or_push, ext_get_or, length-append, length-map, map-append}
use Rattle.std.specs.List.{Contains}
use Rattle.std.specs.List.Sorted.{IsNonDecreasing}
use Rattle.ix_atomic.specs.declared.sequenced.errors.TryWriteError.{TryWriteError}
use Rattle.ix_atomic.specs.declared.sequenced.errors.TryWriteError.TheVariants.{Busy, VersionsUsedUp}
use Rattle.ix_atomic.specs.History.{Begins, IsEven, IsOdd, Loads, LoadsTwice, history_value}
use Rattle.ix_atomic.specs.Versions.{last_version}
use Rattle.ix_atomic.specs.laws.HistoryLaws.{Begins-trans, Begins-length, Begins-loads, slice_get-begins, history_value-begins}
use Rattle.ix_atomic.specs.Writers.{Writer, Writes, Refuses, AreOwn, HoldsEach, IsRising, as_reader, places_merge}
use Rattle.ix_atomic.specs.Written.{StandAt, HasWritten, HasSet}
use Rattle.ix_atomic.proofs.OwnPlaces.{merge-cases}
use Rattle.ix_atomic.proofs.EveryValue.{every_value}

module _ {T : Type 0} where
  pub StandAt-longer : (history history' : List T) (places : List ℕ) (values : List T) → Begins history history' → StandAt history places values → StandAt history' places values
  StandAt-longer history history' [] values begins stand = stand
  StandAt-longer history history' (place ∷ places) [] begins stand = let differ = ap length stand in absurd (omega (arith, differ))
  StandAt-longer history history' (place ∷ places) (value ∷ values) begins stand =
      let head : slice_get history place ≡ Some value = ap (λ list. get_or list 0 None) stand in
      let here : slice_get history' place ≡ Some value = slice_get-begins history history' place value begins head in
      let rest = StandAt-longer history history' places values begins (ap (λ list. drop 1 list) stand) in
      λ i. here i ∷ rest i

  pub StandAt-push : (history : List T) (places : List ℕ) (values : List T) (place : ℕ) (value : T) → StandAt history places values → slice_get history place ≡ Some value → StandAt history (places ++ place ∷ []) (values ++ value ∷ [])
  StandAt-push history places values place value stand here =
      map-append (slice_get history) places (place ∷ []) ∙ (λ i. stand i ++ here i ∷ []) ∙ sym (map-append Some values (value ∷ []))

  pub begins_after : (before after : Writer T) (value : T) → Writes before after value → Begins before.known after.known
  begins_after before after value write = Begins-trans before.known write.earlier after.known write.begins (value ∷ [], write.known)

  pub slice_get-last : (xs : List T) (x : T) → slice_get (xs ++ x ∷ []) (length xs) ≡ Some x
  slice_get-last xs x = let long = length-append xs (x ∷ []) in slice_get-get_or (xs ++ x ∷ []) (length xs) x (omega (arith, long)) ∙ ap Some (get_or_push xs x x (length xs) refl)

  StandAt-length : (history : List T) (places : List ℕ) (values : List T) → StandAt history places values → length places ≡ length values
  StandAt-length history places values stand = sym (length-map places (slice_get history)) ∙ ap length stand ∙ length-map values Some

-- a rising list of places is at least as far on as it is long
above_index : (places : List ℕ) → IsRising places → All (λ place. 0 < place) places → (i : ℕ) → i < length places → i < get_or places i 0
above_index places rising above zero inside = above 0 0 inside
above_index places rising above (suc i) inside = let before = above_index places rising above i (omega (arith, inside)) in let less = rising i (suc i) 0 (omega arith) inside in omega (arith, before, less)

below_end : (places : List ℕ) (end : ℕ) → IsRising places → All (λ place. place < end) places → (k i : ℕ) → i + k + 1 ≡ length places → get_or places i 0 + k < end
below_end places end rising below zero i last = let less = below i 0 (omega (arith, last)) in omega (arith, less)
below_end places end rising below (suc k) i last = let after = below_end places end rising below k (suc i) (omega (arith, last)) in let less = rising i (suc i) 0 (omega arith) (omega (arith, last)) in omega (arith, after, less)

-- as many places as the history has after its opening value are all of them
all_places : (places : List ℕ) → IsRising places → All (λ place. (0 < place) × (place < length places + 1)) places → (i : ℕ) → i < length places + 1 → get_or (0 ∷ places) i 0 ≡ i
all_places places rising within zero inside = refl
all_places places rising within (suc i) inside =
    let above = above_index places rising (λ k d inside. (within k d inside).0) i (omega (arith, inside)) in
    let below = below_end places (length places + 1) rising (λ k d inside. (within k d inside).1) (length places - suc i) i (omega (arith, inside)) in
    omega (arith, above, below, inside)

opening : (history : List ℕ) (places values : List ℕ) → StandAt history (0 ∷ places) values → 0 < length history
opening history places [] stand = let differ = ap length stand in absurd (omega (arith, differ))
opening history places (value ∷ values) stand = slice_get_within history 0 value (ap (λ list. get_or list 0 None) stand)

places-within : (history places : List ℕ) → IsRising places × All (λ place. (0 < place) × (place < length history)) places → 0 < length history → length places < length history
places-within history [] own some_value = some_value
places-within history (place ∷ places) own some_value = let first = (own.1 0 0 (omega arith)).0 in
    let last = below_end (place ∷ places) (length history) own.0 (λ k d inside. (own.1 k d inside).1) (length places) 0 (omega arith) in omega (arith, first, last)

pub all_written : (history : List ℕ) (places values : List ℕ) → IsRising places → All (λ place. (0 < place) × (place < length history)) places → length history ≡ length places + 1 → StandAt history (0 ∷ places) values → history ≡ values
all_written history places values rising within count stand =
    let same : length history ≡ length values = count ∙ add-one (length places) ∙ StandAt-length history (0 ∷ places) values stand in
    let inside : All (λ place. (0 < place) × (place < length places + 1)) places = subst (λ end. All (λ place. (0 < place) × (place < end)) places) count within in
    ext_get_or 0 history values same (λ i below.
    let each : i < length (0 ∷ places) = omega (arith, below, count) in
    let long : i < length values = omega (arith, below, same) in
    let at : slice_get history (get_or (0 ∷ places) i 0) ≡ Some (get_or values i 0) =
    sym (get_or-map (slice_get history) (0 ∷ places) i 0 None each) ∙ ap (λ list. get_or list i None) stand ∙ get_or-map Some values i 0 None long in
    get_or_from_slice_get history i (get_or values i 0) 0 (ap (slice_get history) (sym (all_places places rising inside i (omega (arith, below, count)))) ∙ at))

-- what is read later is not less, if the history does not fall
pub never_lower : (history known : List ℕ) → Begins known history → IsNonDecreasing history → (earlier later first second : ℕ) → earlier ≤ later → history_value known earlier ≡ Some first → history_value known later ≡ Some second → first ≤ second
never_lower history known begins grows earlier later first second order one two =
    let at_first = history_value-begins known history earlier first begins one in let at_second = history_value-begins known history later second begins two in
    let inside = slice_get_within history (later / 2) second at_second in
    let up = grows (earlier / 2) (later / 2) 0 (omega (arith, order)) inside in
    let is_first = get_or_from_slice_get history (earlier / 2) first 0 at_first in let is_second = get_or_from_slice_get history (later / 2) second 0 at_second in
    omega (arith, up, is_first, is_second)

-- what one more write adds to the values of a seat
module _ {T : Type 0} where
  pub written_more : (before after : Writer T) (value : T) (values : List T) → Writes before after value → StandAt before.known before.places values → StandAt after.known after.places (values ++ value ∷ [])
  written_more before after value values write stand = subst (λ places. StandAt after.known places (values ++ value ∷ [])) (sym write.places)
      (StandAt-push after.known before.places values (length write.earlier) value (StandAt-longer before.known after.known before.places values (begins_after before after value write) stand)
      (ap (λ list. slice_get list (length write.earlier)) write.known ∙ slice_get-last write.earlier value))

  pub set_more : (before after : Writer T) (value : T) (values : List T) → Writes before after value → HasSet before values → HasSet after (values ++ value ∷ [])
  set_more before after value values write stand = subst (λ places. StandAt after.known (0 ∷ places) (values ++ value ∷ [])) (sym write.places)
      (StandAt-push after.known (0 ∷ before.places) values (length write.earlier) value (StandAt-longer before.known after.known (0 ∷ before.places) values (begins_after before after value write) stand)
      (ap (λ list. slice_get list (length write.earlier)) write.known ∙ slice_get-last write.earlier value))

  -- the value at one of these places is one of the values
  StandAt-Contains : (history : List T) (places : List ℕ) (values : List T) → StandAt history places values → (place : ℕ) (value : T) → Contains places place → slice_get history place ≡ Some value → Contains values value
  StandAt-Contains history places values stand place value has at =
      let i = has.0 in let inside = has.1 in let long = StandAt-length history places values stand in
      let here : slice_get history place ≡ Some (get_or values i value) = ap (slice_get history) (sym has.2) ∙ sym (get_or-map (slice_get history) places i place None inside)
      ∙ ap (λ list. get_or list i None) stand ∙ get_or-map Some values i value None (omega (arith, inside, long)) in
      let same : Some (get_or values i value) ≡ Some value = sym here ∙ at in
      (i, omega (arith, inside, long), cc)

  -- if two seats have all places but the first, each value is the opening one or one that they wrote
  pub merged_values : (history : List T) (merged places places' : List ℕ) (values values' : List T) → merged ≡ places_merge places places' → HoldsEach (length history) merged
      → StandAt history places values → StandAt history places' values'
      → (version : ℕ) (value : T) → history_value history version ≡ Some value → (history_value history 0 ≡ Some value) ⊎ (Contains values value ⊎ Contains values' value)
  merged_values history merged places places' values values' is each stand stand' =
      every_value (λ value. (history_value history 0 ≡ Some value) ⊎ (Contains values value ⊎ Contains values' value)) history merged each (λ value at. inl at)
      (λ place value has at. inr (⊎_elim (λ (mine : Contains places place). inl (StandAt-Contains history places values stand place value mine at))
      (λ (theirs : Contains places' place). inr (StandAt-Contains history places' values' stand' place value theirs at))
      (merge-cases places places' place (subst (λ list. Contains list place) is has))))

-- a refused write leaves what the seat has written where it is
pub refused_keeps : {T : Type 0} (before after : Writer T) (error : TryWriteError) → Refuses before after error → Begins before.known after.known
refused_keeps {T} before after (Busy loaded found) refused = ⊎_elim
    (λ (odd : IsOdd loaded × (found ≡ loaded) × Loads (as_reader before) (as_reader after) loaded × (after.touched ≡ before.touched ++ 0 ∷ [])). odd.2.known)
    (λ (even : IsEven loaded × (loaded < last_version) × (loaded < found) × LoadsTwice (as_reader before) (as_reader after) loaded found × (after.touched ≡ before.touched ++ 0 ∷ 0 ∷ [])).
    Begins-loads (as_reader before) (as_reader after) loaded found even.3) refused
refused_keeps {T} before after VersionsUsedUp refused = refused.0.known

pub refused_written : (before after : Writer ℕ) (error : TryWriteError) (values : List ℕ) → Refuses before after error → after.places ≡ before.places → HasWritten before values → HasWritten after values
refused_written before after error values refused same stand = subst (λ places. StandAt after.known places values) (sym same)
    (StandAt-longer before.known after.known before.places values (refused_keeps before after error refused) stand)

pub refused_set : (before after : Writer ℕ) (error : TryWriteError) (values : List ℕ) → Refuses before after error → after.places ≡ before.places → HasSet before values → HasSet after values
refused_set before after error values refused same stand = subst (λ places. StandAt after.known (0 ∷ places) values) (sym same)
    (StandAt-longer before.known after.known (0 ∷ before.places) values (refused_keeps before after error refused) stand)

-- a seat that wrote as often as the version says knows the whole history
pub wrote_all : (before after : Writer ℕ) (newest limits : List ℕ) (raises version : ℕ) → Begins before.known after.known → after.places ≡ before.places → AreOwn after → length before.places ≡ raises
    → Begins after.known newest → length newest ≡ version / 2 + 1 → version / 2 ≡ raises → HasSet before limits → after.known ≡ limits
wrote_all before after newest limits raises version begins same own count longer up_to all stand =
    let set : HasSet after limits = subst (λ places. StandAt after.known (0 ∷ places) limits) (sym same) (StandAt-longer before.known after.known (0 ∷ before.places) limits begins stand) in
    let places = ap length same in let within = Begins-length after.known newest longer in
    let least = places-within after.known after.places own (opening after.known after.places limits set) in
    all_written after.known after.places limits own.0 own.1 (omega (arith, places, count, within, up_to, all, least)) set
