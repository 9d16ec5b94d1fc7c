-- Text: bytes from 1 to 127, and where one text occurs in another.
use Rattle.std.specs.Prelude.{ℕ, ◌≡◌, ◌-◌, ◌<◌, ◌≤◌, ◌&&◌, ◌==◌, nat_lt, List, ◌++◌, length, take, replicate, Bool, Option, Some, None}
use Rattle.std.specs.declared.cmp.Ordering.{Ordering}
use Rattle.std.specs.Ordering.{nat_cmp}
use Rattle.std.specs.Cmp.Lexicographic.{pointwise, slice_cmp}
use Rattle.std.specs.List.{All, list_all, position_or_len}

-- a byte of a text is from 1 to 127
abbrev pub IsTextByte : ℕ → Type 0
IsTextByte b = (0 < b) × (b < 128)

abbrev pub IsText : List ℕ → Type 0
IsText bytes = All IsTextByte bytes

-- the test for `IsTextByte`
abbrev pub is_text_byte : ℕ → Bool
is_text_byte b = nat_lt 0 b && nat_lt b 128

-- the test for `IsText`
abbrev pub is_text : List ℕ → Bool
is_text = list_all is_text_byte

-- the same bytes in the same order
abbrev pub text_eq : List ℕ → List ℕ → Bool
text_eq = pointwise ◌==◌

-- by the first byte that differs, and otherwise the shorter text is less
abbrev pub text_cmp : List ℕ → List ℕ → Ordering
text_cmp = slice_cmp nat_cmp

-- the text, and then zeros up to the capacity
abbrev pub padded_text : ℕ → List ℕ → List ℕ
padded_text capacity text = text ++ replicate (capacity - length text) 0

-- the index of the first zero, or the length if there is none
abbrev pub nul_position : List ℕ → ℕ
nul_position bytes = position_or_len (λ b. b == 0) bytes

-- the bytes before the first zero
abbrev pub before_nul : List ℕ → List ℕ
before_nul bytes = take (nul_position bytes) bytes

-- the needle occurs in the text at index i
pub record MatchesAt (text needle : List ℕ) (i : ℕ) : Type 0 where
  pub front : List ℕ
  pub rest : List ℕ
  pub parts : text ≡ front ++ (needle ++ rest)
  pub index : length front ≡ i

-- the result is the least index at which the needle occurs, or None if it does not occur
abbrev pub IsFirstMatch : List ℕ → List ℕ → Option ℕ → Type 0
IsFirstMatch text needle (Some i) = MatchesAt text needle i × ((j : ℕ) → MatchesAt text needle j → i ≤ j)
IsFirstMatch text needle None = (j : ℕ) → ¬ MatchesAt text needle j

-- the result is the greatest index at which the needle occurs, or None if it does not occur
abbrev pub IsLastMatch : List ℕ → List ℕ → Option ℕ → Type 0
IsLastMatch text needle (Some i) = MatchesAt text needle i × ((j : ℕ) → MatchesAt text needle j → j ≤ i)
IsLastMatch text needle None = (j : ℕ) → ¬ MatchesAt text needle j

abbrev pub EndsWith : List ℕ → List ℕ → Type 0
EndsWith text ending = (front : List ℕ) × (text ≡ front ++ ending)
