-- Lemmas on changes of a text, each made exactly if a test passes.
use Rattle.std.proofs.Common.{ℕ, ◌≡◌, ◌-◌, Bool, List, length}
use Rattle.std.specs.Prelude.{◌↔◌, ◌==◌}
use Rattle.std.specs.Bool.{IsTrue, OnTrue, OnFalse}
use Rattle.std.specs.List.{starts_with, ends_with}
use Rattle.ix_tables.specs.Bounded.{Bounded}
use Rattle.ix_vector.specs.VectorSteps.{vec_truncate}
use Rattle.ix_string.specs.Text.{MatchesAt, EndsWith}
use Rattle.ix_string.specs.TextSteps.{text_remove_range}
use Rattle.ix_string.proofs.Matches.{starts_with-MatchesAt, ends_with-EndsWith}
use Rattle.ix_commands.specs.StringRun.{string_strip_prefix, string_strip_suffix}
use Rattle.ix_commands.proofs.Tests.{same_test, new-if}

-- whether a prefix was stripped is whether the text started with it
pub prefix-test : (text bytes : List ℕ) (result : Bool) → IsTrue result ↔ MatchesAt text bytes 0 → result ≡ starts_with ◌==◌ text bytes
prefix-test text bytes result is = same_test result (starts_with ◌==◌ text bytes) (MatchesAt text bytes 0) is (starts_with-MatchesAt text bytes)

-- whether a suffix was stripped is whether the text ended with it
pub suffix-test : (text bytes : List ℕ) (result : Bool) → IsTrue result ↔ EndsWith text bytes → result ≡ ends_with ◌==◌ text bytes
suffix-test text bytes result is = same_test result (ends_with ◌==◌ text bytes) (EndsWith text bytes) is (ends_with-EndsWith text bytes)

module _ {S : Type 0} (bounded : S → Bounded ℕ) (old new : S) (bytes : List ℕ) (result : Bool) where
  pub prefix-stripped : IsTrue result ↔ MatchesAt (bounded old).items bytes 0 → OnTrue result (bounded new ≡ text_remove_range (bounded old) 0 (length bytes))
      → OnFalse result (new ≡ old) → bounded new ≡ string_strip_prefix (bounded old) bytes
  prefix-stripped is made kept =
      let text = (bounded old).items in
      new-if bounded old new (text_remove_range (bounded old) 0 (length bytes)) result (starts_with ◌==◌ text bytes) (prefix-test text bytes result is) made kept

  pub suffix-stripped : IsTrue result ↔ EndsWith (bounded old).items bytes → OnTrue result (bounded new ≡ vec_truncate (bounded old) (length (bounded old).items - length bytes))
      → OnFalse result (new ≡ old) → bounded new ≡ string_strip_suffix (bounded old) bytes
  suffix-stripped is made kept =
      let text = (bounded old).items in
      let after = vec_truncate (bounded old) (length text - length bytes) in
      new-if bounded old new after result (ends_with ◌==◌ text bytes) (suffix-test text bytes result is) made kept
