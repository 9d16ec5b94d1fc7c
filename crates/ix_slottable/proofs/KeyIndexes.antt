-- What calls of a container and of an index do to the two, if they are in step.
use Rattle.std.proofs.Common.{◌≡◌, ◌≢◌, ◌⊎◌, ℕ, inl, inr, refl, sym, ap, subst, ◌∙◌, Bool, true, false, true≢false, eqb-true, eq-eqb, Option, Some, None, IsSome}
use Rattle.std.specs.Prelude.{Decides, IfSome, nat_eq, option_map}
use Rattle.std.proofs.lemmas.Bool.{cases_Bool, cases_eq}
use Rattle.ix_slottable.specs.KeyIndexes.{IsIndexOf}
use Rattle.ix_slottable.specs.SlotTableState.{SlotTableState, value_at, IsFree}
use Rattle.ix_slottable.specs.SlotTableSteps.{SlotTableInsert, SlotTableRemove}

pub some_same : {X : Type 0} {a b : X} → Some a ≡ Some b → a ≡ b
some_same e = cc

none_some : {X : Type 0} {x : X} → None ≡ Some x → ⊥
none_some e = cc

-- numbers are compared by `nat_eq`, as texts are by `bytes_decides`
pub nat_eq-Decides : (a b : ℕ) → Decides (nat_eq a b) (a ≡ b)
nat_eq-Decides a b = (eqb-true a b, eq-eqb a b)

module _ {N K V : Type 0} {name : V → N} {find : N → Option K} {get : K → Option V} where
  -- a key that is found has a value
  pub IsIndexOf-held : IsIndexOf name find get → (sought : N) (key : K) → find sought ≡ Some key → IsSome (get key)
  IsIndexOf-held index sought key at = go (get key) (index.found sought key at)
    where
      go : (value : Option V) → option_map name value ≡ Some sought → IsSome value
      go None named = absurd (none_some named)
      go (Some value) named = refl

  -- there is no value, and no name
  pub IsIndexOf-empty : ((key : K) → get key ≡ None) → ((sought : N) → find sought ≡ None) → IsIndexOf name find get
  IsIndexOf-empty vacant none = record {
    named = λ key value at. absurd (none_some (sym (vacant key) ∙ at));
    found = λ sought key at. absurd (none_some (sym (none sought) ∙ at));
  }

  module _ {eq : N → N → Bool} (decides : (a b : N) → Decides (eq a b) (a ≡ b)) (same : (a b : K) → (a ≡ b) ⊎ (a ≢ b)) where
    -- a value is inserted, and its key under its name, which is new
    pub IsIndexOf-inserted : {find' : N → Option K} {get' : K → Option V} → IsIndexOf name find get → (key : K) (value : V)
        → get key ≡ None → get' key ≡ Some value → ((other : K) → other ≢ key → get' other ≡ get other)
        → find (name value) ≡ None → find' (name value) ≡ Some key → ((other : N) → eq other (name value) ≡ false → find' other ≡ find other)
        → IsIndexOf name find' get'
    IsIndexOf-inserted {find'} {get'} index key value free holds rest new finds others = record {
      named = λ other content at. elim (same other key) [
        | inl here ↦
            let is : value ≡ content = some_same (sym holds ∙ ap get' (sym here) ∙ at) in
            ap (λ v. find' (name v)) (sym is) ∙ finds ∙ ap (λ k. Some k) (sym here)
        | inr apart ↦
            let listed = index.named other content (sym (rest other apart) ∙ at) in
            elim (cases_Bool (eq (name content) (name value))) [
              | inl equal ↦ absurd (none_some (sym new ∙ ap find (sym ((decides (name content) (name value)).0 equal)) ∙ listed))
              | inr differs ↦ others (name content) differs ∙ listed
            ]
      ];
      found = λ sought other at. elim (cases_Bool (eq sought (name value))) [
        | inl equal ↦
            let is = (decides sought (name value)).0 equal in
            let here : key ≡ other = some_same (sym finds ∙ ap find' (sym is) ∙ at) in
            ap (λ k. option_map name (get' k)) (sym here) ∙ ap (option_map name) holds ∙ ap (λ n. Some n) (sym is)
        | inr differs ↦
            let is = index.found sought other (sym (others sought differs) ∙ at) in
            elim (same other key) [
              | inl here ↦ absurd (none_some (sym (ap (option_map name) (ap get here ∙ free)) ∙ is))
              | inr apart ↦ ap (option_map name) (rest other apart) ∙ is
            ]
      ];
    }

    -- a name is removed, and the value of the key that it found
    pub IsIndexOf-removed : {find' : N → Option K} {get' : K → Option V} → IsIndexOf name find get → (sought : N) (key : K)
        → get' key ≡ None → ((other : K) → other ≢ key → get' other ≡ get other)
        → find sought ≡ Some key → find' sought ≡ None → ((other : N) → eq other sought ≡ false → find' other ≡ find other)
        → IsIndexOf name find' get'
    IsIndexOf-removed {find'} {get'} index sought key vacated rest at gone others = record {
      named = λ other content holds. elim (same other key) [
        | inl here ↦ absurd (none_some (sym vacated ∙ ap get' (sym here) ∙ holds))
        | inr apart ↦
            let listed = index.named other content (sym (rest other apart) ∙ holds) in
            elim (cases_Bool (eq (name content) sought)) [
              | inl equal ↦ absurd (apart (some_same (sym listed ∙ ap find ((decides (name content) sought).0 equal) ∙ at)))
              | inr differs ↦ others (name content) differs ∙ listed
            ]
      ];
      found = λ other place holds. elim (cases_Bool (eq other sought)) [
        | inl equal ↦ absurd (none_some (sym gone ∙ ap find' (sym ((decides other sought).0 equal)) ∙ holds))
        | inr differs ↦
            let is = index.found other place (sym (others other differs) ∙ holds) in
            elim (same place key) [
              | inl here ↦
                  let one : other ≡ sought = some_same (sym is ∙ ap (λ k. option_map name (get k)) here ∙ index.found sought key at) in
                  absurd (true≢false (sym ((decides other sought).1 one) ∙ differs))
              | inr apart ↦ ap (option_map name) (rest place apart) ∙ is
            ]
      ];
    }

-- the container is a slot table: the premises are what its calls and those of a map promise
module _ {N V : Type 0} {name : V → N} {find find' : N → Option ℕ} {old new : SlotTableState V} {eq : N → N → Bool} (decides : (a b : N) → Decides (eq a b) (a ≡ b)) where
  pub IsIndexOf-table_insert : {key : ℕ} {value : V} {result : Option ℕ} → IsIndexOf name find (value_at old) → SlotTableInsert old value new result → result ≡ Some key
      → find (name value) ≡ None → find' (name value) ≡ Some key → ((other : N) → eq other (name value) ≡ false → find' other ≡ find other)
      → IsIndexOf name find' (value_at new)
  IsIndexOf-table_insert {key} {value} {result} index step is = IsIndexOf-inserted decides cases_eq index key value
      (subst (λ (r : Option ℕ). IfSome r (IsFree old)) is step.was_free).1
      (subst (λ (r : Option ℕ). IfSome r (λ k. value_at new k ≡ Some value)) is step.holds)
      (λ other apart. step.kept other (λ e. apart (sym (some_same (sym is ∙ e)))))

  pub IsIndexOf-table_remove : {key : ℕ} {result : Option V} → IsIndexOf name find (value_at old) → SlotTableRemove old key new result
      → (sought : N) → find sought ≡ Some key → find' sought ≡ None → ((other : N) → eq other sought ≡ false → find' other ≡ find other)
      → IsIndexOf name find' (value_at new)
  IsIndexOf-table_remove {key} index step sought = IsIndexOf-removed decides cases_eq index sought key step.gone step.kept
