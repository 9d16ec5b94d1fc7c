-- What the holder of a seat knows stays known, whatever its seat loads or takes in.
use Rattle.std.specs.Prelude.{◌≡◌, ℕ, ◌/◌, ◌≤◌, List, ◌++◌, length, slice_get, Option, Some, IfSome}
use Rattle.std.proofs.Common.{sym, ◌∙◌, ap, subst, arith, length-append, append_assoc}
use Rattle.std.proofs.lemmas.List.{get_or_append_left}
use Rattle.std.proofs.lemmas.Option.{slice_get_within, slice_get-get_or, get_or_from_slice_get, IfSome_then}
use Rattle.ix_atomic.specs.History.{Begins, Reader, LoadsTwice, history_value}

module _ {T : Type 0} where
  -- some version of the known history has this value
  abbrev pub Knows : List T → T → Type 0
  Knows known value = (version : ℕ) × (history_value known version ≡ Some value)

  pub Begins-trans : (xs ys zs : List T) → Begins xs ys → Begins ys zs → Begins xs zs
  Begins-trans xs ys zs first second = (first.0 ++ second.0, second.1 ∙ ap (λ list. list ++ second.0) first.1 ∙ append_assoc xs first.0 second.0)

  pub Begins-length : (xs ys : List T) → Begins xs ys → length xs ≤ length ys
  Begins-length xs ys begins = let whole = ap length begins.1 in let parts = length-append xs begins.0 in omega (arith, whole, parts)

  slice_get-append : (known more : List T) (place : ℕ) (value : T) → slice_get known place ≡ Some value → slice_get (known ++ more) place ≡ Some value
  slice_get-append known more place value at = let inside = slice_get_within known place value at in let long = length-append known more in
      slice_get-get_or (known ++ more) place value (omega (arith, inside, long))
      ∙ ap Some (get_or_append_left known more value place inside ∙ get_or_from_slice_get known place value value at)

  -- what stands at a place of a history stands there in each later one
  pub slice_get-begins : (known later : List T) (place : ℕ) (value : T) → Begins known later → slice_get known place ≡ Some value → slice_get later place ≡ Some value
  slice_get-begins known later place value begins at = subst (λ (list : List T). slice_get list place ≡ Some value) (sym begins.1) (slice_get-append known begins.0 place value at)

  -- a version keeps its value
  pub history_value-begins : (known later : List T) (version : ℕ) (value : T) → Begins known later → history_value known version ≡ Some value → history_value later version ≡ Some value
  history_value-begins known later version = slice_get-begins known later (version / 2)

  pub Knows-begins : (known later : List T) (value : T) → Begins known later → Knows known value → Knows later value
  Knows-begins known later value begins knows = (knows.0, history_value-begins known later knows.0 value begins knows.1)

  -- two loads of the version, as a read makes them, be it interfered or not
  pub Begins-loads : (before after : Reader T) (first last : ℕ) → LoadsTwice before after first last → Begins before.known after.known
  Begins-loads before after first last loads = Begins-trans before.known loads.between.known after.known loads.first_load.known loads.last_load.known

  -- a reader still knows what it read last
  pub latest_known : (latest : Option T) (before after : Reader T) (first last : ℕ) → IfSome latest (Knows before.known) → LoadsTwice before after first last → IfSome latest (Knows after.known)
  latest_known latest before after first last knows loads = IfSome_then latest knows (λ value. Knows-begins before.known after.known value (Begins-loads before after first last loads))
