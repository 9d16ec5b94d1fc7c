-- Lemmas on the indexes at which one text occurs in another.
use Rattle.std.proofs.Common.{rules, ℕ, ◌≡◌, ◌+◌, ◌-◌, ◌≤◌, List, [], ◌++◌, length, take, drop, length-append, refl, sym, ap, ◌∙◌, arith}
use native.Mathlib.Omega.{by_contra}
use Rattle.std.specs.Prelude.{Option, Some, None, is_some, true, ◌==◌, ◌↔◌}
use Rattle.std.specs.Cmp.Lexicographic.{same_text, nat_list_eq_equiv}
use Rattle.std.proofs.lemmas.List.{take-append-drop, take_at, drop_at}
use Rattle.std.proofs.lemmas.Grind.{common_steps}
use Rattle.memchr.specs.Find.{OccursAt, FindsNeedle, FindsLastNeedle}
use Rattle.memchr.proofs.lemmas.MatchLemmas.{OccursAt-split, OccursAt-from_part}
use Rattle.ix_string.specs.Text.{MatchesAt, IsFirstMatch, IsLastMatch, EndsWith}
use Rattle.std.specs.List.{starts_with, ends_with}
use Rattle.std.specs.Str.Iter.{HasSubslice}

pub MatchesAt-OccursAt : (text needle : List ℕ) (i : ℕ) → OccursAt text needle i → MatchesAt text needle i
MatchesAt-OccursAt text needle i occurs =
    let fits = occurs.fits in
    let split : drop i text ≡ needle ++ drop (i + length needle) text = OccursAt-split text needle i occurs in
    record {
      front = take i text;
      rest = drop (i + length needle) text;
      parts = sym (take-append-drop i text) ∙ ap (λ (r : List ℕ). take i text ++ r) split;
      index = grind (arith, common_steps);
    }

pub OccursAt-MatchesAt : (text needle : List ℕ) (i : ℕ) → MatchesAt text needle i → OccursAt text needle i
OccursAt-MatchesAt text needle i found =
    let counted = ap length found.parts ∙ length-append found.front (needle ++ found.rest) in
    let both = length-append needle found.rest in
    let behind : drop i text ≡ needle ++ found.rest = rw found.parts (drop_at found.front (needle ++ found.rest) i found.index) in
    let here : take (length needle) (drop i text) ≡ needle = rw behind (take_at needle found.rest (length needle) refl) in
    let index = found.index in
    OccursAt-from_part text needle i (omega arith) here

-- a search from the front
pub IsFirstMatch-FindsNeedle : (text needle : List ℕ) (found : Option ℕ) → FindsNeedle text needle 0 found → IsFirstMatch text needle found
IsFirstMatch-FindsNeedle text needle (Some i) finds =
    let least : (j : ℕ) → MatchesAt text needle j → i ≤ j = λ j found. by_contra i j (λ lt. finds.0.before j (omega arith) lt (OccursAt-MatchesAt text needle j found)) in
    (MatchesAt-OccursAt text needle i finds.1, least)
IsFirstMatch-FindsNeedle text needle None finds = λ j found.
    let occurs = OccursAt-MatchesAt text needle j found in
    let fits = occurs.fits in
    finds j (omega arith) (omega arith) occurs

-- a search from the end
pub IsLastMatch-FindsLastNeedle : (text needle : List ℕ) (found : Option ℕ) → FindsLastNeedle text needle found → IsLastMatch text needle found
IsLastMatch-FindsLastNeedle text needle (Some i) finds =
    let greatest : (j : ℕ) → MatchesAt text needle j → j ≤ i = λ j found.
    let occurs = OccursAt-MatchesAt text needle j found in
    let fits = occurs.fits in
    by_contra j i (λ lt. finds.0.after j (omega arith) (omega arith) occurs) in
    (MatchesAt-OccursAt text needle i finds.1, greatest)
IsLastMatch-FindsLastNeedle text needle None finds = λ j found.
    let occurs = OccursAt-MatchesAt text needle j found in
    let fits = occurs.fits in
    finds j (omega arith) (omega arith) occurs

-- the test for a front
pub starts_with-MatchesAt : (text needle : List ℕ) → starts_with ◌==◌ text needle ≡ true ↔ MatchesAt text needle 0
starts_with-MatchesAt text needle = (
  λ yes.
      let same : needle ≡ take (length needle) text = same_text needle (take (length needle) text) (sym yes) in
      record {
        front = [];
        rest = drop (length needle) text;
        parts = sym (take-append-drop (length needle) text) ∙ ap (λ (r : List ℕ). r ++ drop (length needle) text) (sym same);
        index = refl;
      },
  λ found.
      let none : found.front ≡ [] = grind (arith, common_steps, found.index) in
      let parts : text ≡ needle ++ found.rest = rw none at found.parts in
      let front : take (length needle) text ≡ needle = rw parts (take_at needle found.rest (length needle) refl) in
      rw front (nat_list_eq_equiv.refl needle),
)

-- the test for an ending
pub ends_with-EndsWith : (text ending : List ℕ) → ends_with ◌==◌ text ending ≡ true ↔ EndsWith text ending
ends_with-EndsWith text ending = (
  λ yes.
      let n = length text - length ending in
      let same : ending ≡ drop n text = same_text ending (drop n text) (sym yes) in
      (take n text, sym (take-append-drop n text) ∙ ap (λ (r : List ℕ). take n text ++ r) (sym same)),
  λ ends.
      let counted = ap length ends.1 ∙ length-append ends.0 ending in
      let n = length text - length ending in
      let place : length ends.0 ≡ n = omega arith in
      let behind : drop n text ≡ ending = ap (drop n) ends.1 ∙ drop_at ends.0 ending n place in
      rw behind (nat_list_eq_equiv.refl ending),
)

-- a text has the needle if a search finds it
pub IsFirstMatch-HasSubslice : (text needle : List ℕ) (found : Option ℕ) → IsFirstMatch text needle found → is_some found ≡ true ↔ HasSubslice text needle
IsFirstMatch-HasSubslice text needle (Some i) is = (λ _. (is.0.front, is.0.rest, is.0.parts), λ _. refl)
IsFirstMatch-HasSubslice text needle None is = (
  λ never. absurd (search rules),
  λ has. absurd (is (length has.0) (record { front = has.0; rest = has.1; parts = has.2; index = refl })),
)
