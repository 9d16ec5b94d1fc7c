-- What `push_bytes` and its like promise of a string, and when they return an error.
use Rattle.std.proofs.Common.{ℕ, ◌≡◌, ◌+◌, ◌≤◌, List, ◌++◌, length, Bool, true, false, cond, Ok, Err, refl, ap, ◌∙◌, arith}
use Rattle.std.proofs.lemmas.Bool.Decides.{nat_tests}
use Rattle.std.proofs.lemmas.Grind.{common_steps}
use Rattle.std.proofs.lemmas.List.Sums.{AllPass-from_list_all}
use Rattle.std.specs.Prelude.{is_err}
use Rattle.ix_tables.specs.Bounded.{Bounded}
use Rattle.ix_string.specs.Text.{IsText, is_text, is_text_byte}
use Rattle.ix_string.specs.TextSteps.{TextResult, has_room_for, text_insert, text_insert_slice, text_insert_result}
use Rattle.ix_string.specs.declared.string.modification_error.StringModificationError.TheVariants.{InvalidCharacter, InsertWouldExceedCapacity}
use Rattle.ix_string.proofs.Texts.{is_text-yes}

pub IsText-yes : (bytes : List ℕ) → is_text bytes ≡ true → IsText bytes
IsText-yes bytes passes k d lt = let here = AllPass-from_list_all is_text_byte bytes passes k d lt in (grind (arith, common_steps), grind (arith, common_steps))

pub record Appended (old new : Bounded ℕ) (bytes : List ℕ) : Type 0 where
  pub text : IsText bytes
  pub fits : length old.items + length bytes ≤ old.capacity
  pub items : new.items ≡ old.items ++ bytes
  pub len : length new.items ≡ length old.items + length bytes
  pub capacity : new.capacity ≡ old.capacity

module _ (old new : Bounded ℕ) (bytes : List ℕ) (result : TextResult) (value : result ≡ text_insert_result old bytes) where
  pub Appended-ok : new ≡ text_insert old (length old.items) bytes → is_err result ≡ false → Appended old new bytes
  Appended-ok step ok = go (has_room_for old bytes) refl (is_text bytes) refl
    where
      go : (room : Bool) → has_room_for old bytes ≡ room → (is : Bool) → is_text bytes ≡ is → Appended old new bytes
      go false full is e =
          let error : is_err result ≡ true = ap is_err (value ∙ ap (λ b. cond b (cond (is_text bytes) (Ok tt) (Err InvalidCharacter)) (Err InsertWouldExceedCapacity)) full) in
          absurd (cc)
      go true room false e =
          let error : is_err result ≡ true = ap is_err (value ∙ ap (λ b. cond b (cond (is_text bytes) (Ok tt) (Err InvalidCharacter)) (Err InsertWouldExceedCapacity)) room ∙ ap (λ b. cond b (Ok tt) (Err InvalidCharacter)) e) in
          absurd (cc)
      go true room true e =
          let is : new ≡ text_insert_slice old (length old.items) bytes =
          step ∙ ap (λ b. cond b (cond (is_text bytes) (text_insert_slice old (length old.items) bytes) old) old) room
          ∙ ap (λ b. cond b (text_insert_slice old (length old.items) bytes) old) e in
          record {
            text = IsText-yes bytes e;
            fits = grind (arith, nat_tests);
            items = ap (λ (text : Bounded ℕ). text.items) is ∙ grind (arith, common_steps);
            len = ap (λ (text : Bounded ℕ). length text.items) is ∙ grind (arith, common_steps);
            capacity = ap (λ (text : Bounded ℕ). text.capacity) is;
          }

  pub not_refused : is_err result ≡ true → IsText bytes → length old.items + length bytes ≤ old.capacity → ⊥
  not_refused error is fits =
      let room : has_room_for old bytes ≡ true = grind (arith, nat_tests) in
      let ok : is_err result ≡ false = ap is_err (value ∙ ap (λ b. cond b (cond (is_text bytes) (Ok tt) (Err InvalidCharacter)) (Err InsertWouldExceedCapacity)) room ∙ ap (λ b. cond b (Ok tt) (Err InvalidCharacter)) (is_text-yes bytes is)) in
      cc
