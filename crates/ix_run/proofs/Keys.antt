-- Words that are keys.
use Rattle.std.proofs.Common.{ℕ, ◌≡◌, if◌then◌else◌, ◌≤◌, ◌<◌, ◌-◌, List, [], ◌∷◌, Option, Some, None, length, take, drop, refl}
use Rattle.std.specs.List.{slice_split, position_or_len}
use Rattle.std.specs.Option.{option_and_then}
use Rattle.std.proofs.lemmas.List.Sums.{prefix_len-le-length}
use Rattle.ix_slotmap.specs.Generations.{SlotKey}
use Rattle.ix_run.specs.Reading.{number_of}
use Rattle.ix_run.specs.Words.{is_colon, fits_generation, numbers_in, takes_one, key_of_numbers, key_of}
use Rattle.ix_run.proofs.Words.{cons_number, split_first, split_last, number_of_last_part}

-- the key of two numbers, if there are both
abbrev pub key_of_parts : Option ℕ → Option ℕ → Option SlotKey
key_of_parts first second = option_and_then (λ i. option_and_then (λ g. if fits_generation g then Some (record { index = i; generation = g }) else None) second) first

one_part : (first : Option ℕ) → option_and_then key_of_numbers (cons_number first (Some [])) ≡ None
one_part None = refl
one_part (Some i) = refl

two_parts : (first : Option ℕ) (numbers : Option (List ℕ)) → option_and_then key_of_numbers (cons_number first numbers) ≡ key_of_parts first (option_and_then (takes_one (λ n. n)) numbers)
two_parts None numbers = refl
two_parts (Some i) None = refl
two_parts (Some i) (Some []) = refl
two_parts (Some i) (Some (g ∷ [])) = refl
two_parts (Some i) (Some (g ∷ n ∷ numbers)) = refl

pub colon_bound : (word : List ℕ) → position_or_len is_colon word ≤ length word
colon_bound word = prefix_len-le-length _ word

-- a word without a colon is no key
pub key_of-no_colon : (word index rest : List ℕ) (n : ℕ) → n ≡ position_or_len is_colon word → index ≡ take n word → rest ≡ drop n word → length rest ≡ 0 → key_of word ≡ None
key_of-no_colon word index rest n e w r none = rw (split_last 58 word index rest n e w r none) (one_part (number_of index))

-- the two parts of a key
pub key_of-colon : (word index rest : List ℕ) (n : ℕ) → n ≡ position_or_len is_colon word → index ≡ take n word → rest ≡ drop n word → 0 < length rest
    → key_of word ≡ key_of_parts (number_of index) (number_of (take (length rest - 1) (drop 1 rest)))
key_of-colon word index rest n e w r some =
    rw (split_first 58 word index rest n e w r some, number_of_last_part (take (length rest - 1) (drop 1 rest)))
    (two_parts (number_of index) (numbers_in (slice_split is_colon (take (length rest - 1) (drop 1 rest)))))

pub ruleset key_cut = (colon_bound, key_of-no_colon, key_of-colon)
