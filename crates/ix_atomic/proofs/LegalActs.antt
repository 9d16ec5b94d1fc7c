-- The tests of acts tell whether they are legal.
use Rattle.std.proofs.Common.{◌≡◌, ℕ, ◌<◌, List, [], ◌∷◌, length, map, Some, true, slice_index, refl, sym, ap, ◌∙◌, subst, inl, inr, arith, nat_lt, lt-ltb, ltb-true, eq-eqb, eqb-true}
use Rattle.std.specs.List.{filter_map}
use Rattle.std.proofs.lemmas.Bool.{or_left, or_right, or_cases, not_from_false, not-true, both_ways}
use Rattle.std.proofs.lemmas.Bool.Decides.{eqb_tells}
use Rattle.std.proofs.lemmas.Option.{slice_get-get_or}
use Rattle.ix_atomic.specs.declared.byte_atomic.steps.plain.Act.{Act}
use Rattle.ix_atomic.specs.declared.byte_atomic.steps.plain.Act.TheVariants.{Store, Load}
use Rattle.ix_atomic.specs.EachStep.{EachAfter}
use Rattle.ix_atomic.specs.ByteActs.{byte_after, IsLegalAfter, AreLegal}
use Rattle.ix_atomic.specs.inner.StepTests.{act_place, is_within, all_within, load_agrees, next_byte, loads_agree}
use Rattle.ix_atomic.proofs.EachStep.{EachAfter-steps_pass, steps_pass-EachAfter}
use Rattle.ix_atomic.proofs.LastStored.{byte_after-push}

-- a load at the place has its byte
abbrev AgreesAt : List ℕ → ℕ → List Act → Act → Type 0
AgreesAt first place before act = (byte : ℕ) → act ≡ Load place byte → byte_after first before place ≡ Some byte

load_agrees-tells : (first : List ℕ) (place : ℕ) (before : List Act) (latest : ℕ) (act : Act) → byte_after first before place ≡ Some latest → load_agrees place latest act ≡ true → AgreesAt first place before act
load_agrees-tells first place before latest act is passes byte e = elim (or_cases _ _ (sym (ap (load_agrees place latest) e) ∙ passes)) [
  | inl other ↦ absurd (both_ways _ (not-true _ other) (eq-eqb place place refl))
  | inr same ↦ is ∙ ap Some (sym (eqb-true _ _ same))
]

load_agrees-from : (first : List ℕ) (place : ℕ) (before : List Act) (latest : ℕ) (act : Act) → byte_after first before place ≡ Some latest → AgreesAt first place before act → load_agrees place latest act ≡ true
load_agrees-from first place before latest (Store at byte) is agrees = refl
load_agrees-from first place before latest (Load at byte) is agrees = elim (eqb_tells at place) [
  | inl here ↦ let same : byte ≡ latest = (let e = agrees byte (ap (λ p. Load p byte) here.1) in cc) in or_right _ _ (eq-eqb _ _ same)
  | inr other ↦ or_left _ _ (not_from_false _ other.0)
]

first_byte : (first : List ℕ) (place : ℕ) → place < length first → byte_after first [] place ≡ Some (slice_index first place)
first_byte first place below = slice_get-get_or first place 0 below

pub AreLegal-passes : (first : List ℕ) (acts : List Act) → all_within (length first) acts ≡ true
    → ((place : ℕ) → place < length first → loads_agree place (slice_index first place) acts ≡ true) → AreLegal first acts
AreLegal-passes first acts within agree before after act e =
    legal act (inside before after act e) (λ place below. agrees place below before after act e)
  where
    inside : EachAfter (λ before act. act_place act < length first) acts
    inside = EachAfter-steps_pass is_within (λ len act. len) (λ before len. len ≡ length first) (λ before act. act_place act < length first)
        (λ before len act is. is)
        (λ before len act is passes. ltb-true _ _ (sym (ap (nat_lt (act_place act)) is) ∙ passes))
        (length first) acts refl within

    agrees : (place : ℕ) → place < length first → EachAfter (AgreesAt first place) acts
    agrees place below = EachAfter-steps_pass (load_agrees place) (next_byte place) (λ before byte. byte_after first before place ≡ Some byte) (AgreesAt first place)
        (λ before byte act is. byte_after-push first before act place byte is)
        (λ before byte act is passes. load_agrees-tells first place before byte act is passes)
        (slice_index first place) acts (first_byte first place below) (agree place below)

    legal : (act : Act) → act_place act < length first → ((place : ℕ) → place < length first → AgreesAt first place before act) → IsLegalAfter first before act
    legal (Store place byte) below each = below
    legal (Load place byte) below each = (below, each place below byte refl)

legal_place : (first : List ℕ) (before : List Act) (act : Act) → IsLegalAfter first before act → act_place act < length first
legal_place first before (Store place byte) h = h
legal_place first before (Load place byte) h = h.0

pub all_within-legal : (first : List ℕ) (acts : List Act) → AreLegal first acts → all_within (length first) acts ≡ true
all_within-legal first acts legal =
    steps_pass-EachAfter is_within (λ len act. len) (λ before len. len ≡ length first) (IsLegalAfter first)
    (λ before len act is. is)
    (λ before len act is h. lt-ltb _ _ (let below = legal_place first before act h in omega (arith, is)))
    (length first) acts refl legal

pub loads_agree-legal : (first : List ℕ) (acts : List Act) (place : ℕ) → place < length first → AreLegal first acts → loads_agree place (slice_index first place) acts ≡ true
loads_agree-legal first acts place below legal =
    steps_pass-EachAfter (load_agrees place) (next_byte place) (λ before byte. byte_after first before place ≡ Some byte) (IsLegalAfter first)
    (λ before byte act is. byte_after-push first before act place byte is)
    (λ before byte act is h. load_agrees-from first place before byte act is (λ loaded e. (subst (IsLegalAfter first before) e h).1))
    (slice_index first place) acts (first_byte first place below) legal

-- steps that all are acts
pub filter_map-Some : {S A : Type 0} (f : S → A) (xs : List S) → filter_map (λ x. Some (f x)) xs ≡ map f xs
filter_map-Some f [] = refl
filter_map-Some f (x ∷ xs) = ap (λ l. f x ∷ l) (filter_map-Some f xs)
