-- Words of a line.
use Rattle.std.proofs.Common.{ℕ, ◌≡◌, ◌≤◌, ◌<◌, ◌+◌, ◌-◌, List, [], ◌∷◌, ◌++◌, Option, Some, None, IfSome, All, ◌^◌, decimal, bytes_eq, length, take, drop, set, nat_eq, Bool, true, false, ◌&&◌, append_assoc, cond, refl, sym, ap, ◌∙◌, arith, ◌||◌, get_or, append-nil, take-append-drop, true≢false}
use Rattle.std.specs.List.{list_all, list_any, onto_first, slice_split, position_or_len, before_first, after_first, join_with_byte}
use Rattle.std.specs.Str.{all_ascii_digits}
use Rattle.std.specs.Char.{is_ascii_digit}
use Rattle.std.specs.Option.{option_and_then, option_map}
use Rattle.std.specs.Map.{lookup}
use Rattle.std.proofs.lemmas.Bool.{and_parts, eqb-true}
use Rattle.std.proofs.lemmas.Grind.{common_steps, take-set_at}
use Rattle.std.proofs.lemmas.List.{take_all, drop-drop, length-drop, nil_from_length, length-append}
use Rattle.std.proofs.lemmas.List.Elements.{All-cons, All-nil}
use Rattle.std.proofs.lemmas.List.Sums.{prefix_len-le-length, fails_before_first}
use Rattle.std.proofs.lemmas.List.Splits.{slice_split_first, slice_split_none, length-slice_split, join_with_byte-slice_split}
use Rattle.std.proofs.Math.Seq.{drop-cons, take-append_seam}
use Rattle.std.proofs.lemmas.Slice.Eq.{bytes_eq-Decides}
use Rattle.ix_run.specs.inner.NameTables.{first_word, IsAfterName}
use Rattle.ix_run.proofs.Pieces.{not_true}
use Rattle.ix_run.specs.Reading.{number_of}
use Rattle.ix_run.specs.Words.{Form, is_space, is_colon, numbers_in, name_and_numbers, fits_byte, make_named, command_of, takes_none, takes_one, takes_two, one_byte, number_byte, many_bytes, number_many_bytes}
use Rattle.ix_run.specs.inner.LineRest.{words_after, len_after, byte_of}
use Rattle.ix_run.proofs.Numbers.{IsNumeral-decimal, number_of-IfSome}

-- where a separator is
abbrev pub is_byte : ℕ → ℕ → Bool
is_byte separator byte = nat_eq byte separator

-- bytes without the separator are one part
pub split_last : (separator : ℕ) (bytes part rest : List ℕ) (n : ℕ) → n ≡ position_or_len (is_byte separator) bytes → part ≡ take n bytes → rest ≡ drop n bytes → length rest ≡ 0
    → slice_split (is_byte separator) bytes ≡ part ∷ []
split_last separator bytes part rest n e w r none =
    let all : part ≡ bytes = grind (arith, common_steps) in
    let end : length bytes ≤ position_or_len (is_byte separator) bytes = grind (arith, common_steps) in
    rw all (slice_split_none (is_byte separator) bytes (λ k d l. fails_before_first (is_byte separator) bytes k d (omega (arith, end, l))))

-- the bytes before the first separator, and those after it
pub split_first : (separator : ℕ) (bytes part rest : List ℕ) (n : ℕ) → n ≡ position_or_len (is_byte separator) bytes → part ≡ take n bytes → rest ≡ drop n bytes → 0 < length rest
    → slice_split (is_byte separator) bytes ≡ part ∷ slice_split (is_byte separator) (take (length rest - 1) (drop 1 rest))
split_first separator bytes part rest n e w r some =
    let short : position_or_len (is_byte separator) bytes < length bytes = grind (arith, common_steps) in
    let front : part ≡ before_first (is_byte separator) bytes = rw (sym e) w in
    let all : take (length rest - 1) (drop 1 rest) ≡ drop 1 rest = take_all _ _ (simp length-drop (omega arith)) in
    let next : drop 1 rest ≡ drop (n + 1) bytes = rw r (drop-drop 1 n bytes) in
    let back : take (length rest - 1) (drop 1 rest) ≡ after_first (is_byte separator) bytes = all ∙ next ∙ ap (λ k. drop (k + 1) bytes) e in
    rw (front, back) (slice_split_first (is_byte separator) bytes 0 short)

pub position_or_len_bound : (bytes : List ℕ) → position_or_len is_space bytes ≤ length bytes
position_or_len_bound bytes = prefix_len-le-length _ bytes

pub split_last_word : (bytes word rest : List ℕ) (n : ℕ) → n ≡ position_or_len is_space bytes → word ≡ take n bytes → rest ≡ drop n bytes → length rest ≡ 0 → slice_split is_space bytes ≡ word ∷ []
split_last_word bytes word rest n e w r none = split_last 32 bytes word rest n e w r none

pub split_first_word : (bytes word rest : List ℕ) (n : ℕ) → n ≡ position_or_len is_space bytes → word ≡ take n bytes → rest ≡ drop n bytes → 0 < length rest → slice_split is_space bytes ≡ word ∷ slice_split is_space (take (length rest - 1) (drop 1 rest))
split_first_word bytes word rest n e w r some = split_first 32 bytes word rest n e w r some

pub ruleset words_split = (position_or_len_bound, split_last_word, split_first_word)

first_part : (byte : ℕ) (t : Bool) (parts others : List (List ℕ)) (first : List ℕ) → parts ≡ first ∷ others
    → cond t ([] ∷ parts) (onto_first byte parts) ≡ cond t [] (byte ∷ first) ∷ cond t parts others
first_part byte true parts others first e = refl
first_part byte false parts others first e = ap (onto_first byte) e

-- the words behind the first
abbrev pub other_words : List ℕ → List (List ℕ)
other_words [] = []
other_words (byte ∷ bytes) = cond (is_space byte) (slice_split is_space bytes) (other_words bytes)

-- a line is its first word and the others
pub first_word_split : (line : List ℕ) → slice_split is_space line ≡ first_word line ∷ other_words line
first_word_split [] = refl
first_word_split (byte ∷ bytes) = first_part byte (is_space byte) (slice_split is_space bytes) (other_words bytes) (first_word bytes) (first_word_split bytes)

prefix-cons : (byte : ℕ) (bytes : List ℕ) (t : Bool) (first : List ℕ) → (rest : List ℕ) × (bytes ≡ first ++ rest) → (rest : List ℕ) × (byte ∷ bytes ≡ cond t [] (byte ∷ first) ++ rest)
prefix-cons byte bytes true first h = (byte ∷ bytes, refl)
prefix-cons byte bytes false first h = (h.0, ap (λ l. byte ∷ l) h.1)

-- a line begins with its first word
first_word-prefix : (line : List ℕ) → (rest : List ℕ) × (line ≡ first_word line ++ rest)
first_word-prefix [] = ([], refl)
first_word-prefix (byte ∷ bytes) = prefix-cons byte bytes (is_space byte) (first_word bytes) (first_word-prefix bytes)

or_parts : (a b : Bool) → (a || b) ≡ false → (a ≡ false) × (b ≡ false)
or_parts true b e = absurd (true≢false e)
or_parts false b e = (refl, e)

-- bytes without a space lengthen the first word of what stands behind them
first_word-append : (name rest : List ℕ) → list_any is_space name ≡ false → first_word (name ++ rest) ≡ name ++ first_word rest
first_word-append [] rest h = refl
first_word-append (byte ∷ name) rest h =
    let parts = or_parts (is_space byte) (list_any is_space name) h in
    rw parts.0 (ap (λ l. byte ∷ l) (first_word-append name rest parts.1))

other_words-append : (name rest : List ℕ) → list_any is_space name ≡ false → other_words (name ++ rest) ≡ other_words rest
other_words-append [] rest h = refl
other_words-append (byte ∷ name) rest h =
    let parts = or_parts (is_space byte) (list_any is_space name) h in
    rw parts.0 (other_words-append name rest parts.1)

pub bytes_differ : (a b : List ℕ) → (a ≡ b → ⊥) → bytes_eq a b ≡ false
bytes_differ a b h = not_true (bytes_eq a b) (λ e. h ((bytes_eq-Decides a b).0 e))

-- a line that does not begin with the name
pub not_name_before : (line name : List ℕ) → bytes_eq (take (length name) line) name ≡ false → bytes_eq (first_word line) name ≡ false
not_name_before line name other =
    bytes_differ (first_word line) name (λ e.
    let (rest, is) = first_word-prefix line in
    let front : take (length name) line ≡ name = ap (take (length name)) (is ∙ ap (λ w. w ++ rest) e) ∙ take-append_seam name rest in
    true≢false (sym ((bytes_eq-Decides (take (length name) line) name).1 front) ∙ other))

-- a line that begins with the name, and with what stands behind it
begins : (line name rest : List ℕ) → bytes_eq (take (length name) line) name ≡ true → rest ≡ drop (length name) line → line ≡ name ++ rest
begins line name rest e back =
    sym (take-append-drop (length name) line) ∙ rw (sym back) (ap (λ l. l ++ rest) ((bytes_eq-Decides (take (length name) line) name).0 e))

named : (line name rest : List ℕ) (after : Option (List ℕ)) → line ≡ name ++ rest → list_any is_space name ≡ false → first_word rest ≡ [] → other_words rest ≡ words_after after → len_after after ≤ length rest
    → IsAfterName line name after
named line name rest after is word first others len =
    let same : first_word line ≡ name = ap first_word is ∙ first_word-append name rest word ∙ ap (λ l. name ++ l) first ∙ append-nil name in
    let behind : other_words line ≡ words_after after = ap other_words is ∙ other_words-append name rest word ∙ others in
    let long : length line ≡ length name + length rest = ap length is ∙ length-append name rest in
    record {
      named = (bytes_eq-Decides (first_word line) name).1 same;
      words = first_word_split line ∙ ap (λ l. first_word line ∷ l) behind;
      len = omega (arith, long, len);
    }

pub name_alone : (line name rest : List ℕ) → bytes_eq (take (length name) line) name ≡ true → rest ≡ drop (length name) line → list_any is_space name ≡ false → length rest ≡ 0 → IsAfterName line name None
name_alone line name rest e back word none =
    let end : rest ≡ [] = nil_from_length rest none in
    named line name rest None (begins line name rest e back) word (ap first_word end) (ap other_words end) (omega arith)

name_and_byte : (line name rest : List ℕ) (byte : ℕ) → line ≡ name ++ rest → list_any is_space name ≡ false → rest ≡ byte ∷ drop 1 rest → is_space byte ≡ true → IsAfterName line name (Some (drop 1 rest))
name_and_byte line name rest byte is word cut space =
    named line name rest (Some (drop 1 rest)) is word (ap first_word cut ∙ rw space refl) (ap other_words cut ∙ rw space refl) (let long : length rest ≡ length (drop 1 rest) + 1 = ap length cut ∙ omega arith in omega (arith, long))

pub name_before_space : (line name rest : List ℕ) → bytes_eq (take (length name) line) name ≡ true → rest ≡ drop (length name) line → list_any is_space name ≡ false → 0 < length rest → get_or rest 0 0 ≡ 32
    → IsAfterName line name (Some (take (length rest - 1) (drop 1 rest)))
name_before_space line name rest e back word some space =
    let all : take (length rest - 1) (drop 1 rest) ≡ drop 1 rest = take_all _ _ (simp length-drop (omega arith)) in
    rw all (name_and_byte line name rest (get_or rest 0 0) (begins line name rest e back) word (drop-cons rest 0 0 some) (ap is_space space))

pub not_name_inside : (line name rest : List ℕ) → bytes_eq (take (length name) line) name ≡ true → rest ≡ drop (length name) line → list_any is_space name ≡ false → 0 < length rest → (get_or rest 0 0 ≡ 32 → ⊥)
    → bytes_eq (first_word line) name ≡ false
not_name_inside line name rest e back word some other =
    let byte = get_or rest 0 0 in
    let none : is_space byte ≡ false = not_true (is_space byte) (λ h. other (eqb-true byte 32 h)) in
    let first : first_word rest ≡ byte ∷ first_word (drop 1 rest) = ap first_word (drop-cons rest 0 0 some) ∙ rw none refl in
    let same : first_word line ≡ name ++ (byte ∷ first_word (drop 1 rest)) = ap first_word (begins line name rest e back) ∙ first_word-append name rest word ∙ ap (λ l. name ++ l) first in
    bytes_differ (first_word line) name (λ h. let long = ap length (sym h ∙ same) ∙ length-append name (byte ∷ first_word (drop 1 rest)) in omega (arith, long))

-- no digit is a space
pub digits-All : (digits : List ℕ) → all_ascii_digits digits ≡ true → All (λ b. is_space b ≡ false) digits
digits-All [] h = All-nil (λ b. is_space b ≡ false)
digits-All (c ∷ digits) h =
    let parts = and_parts (is_ascii_digit c) (all_ascii_digits digits) h in
    All-cons (λ b. is_space b ≡ false) c digits (grind (arith, common_steps)) (digits-All digits parts.1)

-- no digit is a colon
pub digits-no_colon : (digits : List ℕ) → all_ascii_digits digits ≡ true → All (λ b. is_colon b ≡ false) digits
digits-no_colon [] h = All-nil (λ b. is_colon b ≡ false)
digits-no_colon (c ∷ digits) h =
    let parts = and_parts (is_ascii_digit c) (all_ascii_digits digits) h in
    All-cons (λ b. is_colon b ≡ false) c digits (grind (arith, common_steps)) (digits-no_colon digits parts.1)

-- the text of a number has no space
pub decimal-All : (n : ℕ) → n < 2 ^ 64 → All (λ b. is_space b ≡ false) (decimal n)
decimal-All n h = digits-All (decimal n) (IsNumeral-decimal (decimal n) n h refl).digits

-- the numbers of a word and of those after it, from what each gives
abbrev pub cons_number : Option ℕ → Option (List ℕ) → Option (List ℕ)
cons_number number numbers = option_and_then (λ n. option_map (λ ns. n ∷ ns) numbers) number

one-two_words : (first second : Option ℕ) (numbers : Option (List ℕ)) → option_and_then (takes_one (λ n. n)) (cons_number first (cons_number second numbers)) ≡ None
one-two_words None second numbers = refl
one-two_words (Some n) None numbers = refl
one-two_words (Some n) (Some m) None = refl
one-two_words (Some n) (Some m) (Some ns) = refl

-- parts are one number only if they are one part
one-parts : (separator : ℕ) (parts : List (List ℕ)) (bytes : List ℕ) → join_with_byte separator parts ≡ bytes → number_of bytes ≡ None → option_and_then (takes_one (λ n. n)) (numbers_in parts) ≡ None
one-parts separator [] bytes e none = refl
one-parts separator (part ∷ []) bytes e none = rw (e, none) refl
one-parts separator (part ∷ next ∷ parts) bytes e none = one-two_words (number_of part) (number_of next) (numbers_in parts)

number_of_last-by : (separator : ℕ) (bytes : List ℕ) (r : Option ℕ) → ((digits : List ℕ) → all_ascii_digits digits ≡ true → All (λ b. is_byte separator b ≡ false) digits)
    → number_of bytes ≡ r → IfSome r (λ n. (bytes ≡ decimal n) × (n < 2 ^ 64)) → r ≡ option_and_then (takes_one (λ n. n)) (numbers_in (slice_split (is_byte separator) bytes))
number_of_last-by separator bytes None apart e h = sym (one-parts separator (slice_split (is_byte separator) bytes) bytes (join_with_byte-slice_split separator bytes) e)
number_of_last-by separator bytes (Some n) apart e (d, h) =
    let word : slice_split (is_byte separator) bytes ≡ bytes ∷ [] = slice_split_none (is_byte separator) bytes (apart bytes (IsNumeral-decimal bytes n h d).digits) in
    rw (word, e) refl

-- a number is one word
pub number_of_last : (bytes : List ℕ) → number_of bytes ≡ option_and_then (takes_one (λ n. n)) (numbers_in (slice_split is_space bytes))
number_of_last bytes = number_of_last-by 32 bytes (number_of bytes) digits-All refl (number_of-IfSome bytes)

-- a number has no colon
pub number_of_last_part : (bytes : List ℕ) → number_of bytes ≡ option_and_then (takes_one (λ n. n)) (numbers_in (slice_split is_colon bytes))
number_of_last_part bytes = number_of_last-by 58 bytes (number_of bytes) digits-no_colon refl (number_of-IfSome bytes)

-- a second number after the first
pub two_after_number : (n : ℕ) (numbers : Option (List ℕ))
    → option_and_then {U = ℕ × ℕ} (takes_two (λ m k. (m, k))) (option_map (λ ns. n ∷ ns) numbers) ≡ option_map (λ m. (n, m)) (option_and_then (takes_one (λ m. m)) numbers)
two_after_number n None = refl
two_after_number n (Some []) = refl
two_after_number n (Some (m ∷ [])) = refl
two_after_number n (Some (m ∷ k ∷ ns)) = refl

cond-byte : {C : Type 0} (make : ℕ → C) (b : ℕ) (fits : Bool) → cond fits (Some (make b)) None ≡ option_map make (cond fits (Some b) None)
cond-byte make b true = refl
cond-byte make b false = refl

-- one byte, as one number that is a byte
one_byte-one : (numbers : Option (List ℕ)) → option_and_then (one_byte (λ b. b)) numbers ≡ option_and_then (λ n. cond (fits_byte n) (Some n) None) (option_and_then (takes_one (λ n. n)) numbers)
one_byte-one None = refl
one_byte-one (Some []) = refl
one_byte-one (Some (n ∷ [])) = refl
one_byte-one (Some (n ∷ m ∷ ns)) = refl

-- a byte is one word
pub byte_of_last : (bytes : List ℕ) → byte_of bytes ≡ option_and_then (one_byte (λ b. b)) (numbers_in (slice_split is_space bytes))
byte_of_last bytes = ap (option_and_then (λ n. cond (fits_byte n) (Some n) None)) (number_of_last bytes) ∙ sym (one_byte-one (numbers_in (slice_split is_space bytes)))

-- a byte after a number
pub byte_after_number : (n : ℕ) (numbers : Option (List ℕ))
    → option_and_then {U = ℕ × ℕ} (number_byte (λ m b. (m, b))) (option_map (λ ns. n ∷ ns) numbers) ≡ option_map (λ b. (n, b)) (option_and_then (one_byte (λ b. b)) numbers)
byte_after_number n None = refl
byte_after_number n (Some []) = refl
byte_after_number n (Some (b ∷ [])) = cond-byte (λ m. (n, m)) b (fits_byte b)
byte_after_number n (Some (b ∷ k ∷ ns)) = refl

cond-bytes : {C : Type 0} (make : List ℕ → C) (bs : List ℕ) (fit : Bool) → cond fit (Some (make bs)) None ≡ option_map make (cond fit (Some bs) None)
cond-bytes make bs true = refl
cond-bytes make bs false = refl

-- bytes after a number
pub bytes_after_number : (n : ℕ) (numbers : Option (List ℕ))
    → option_and_then {U = ℕ × List ℕ} (number_many_bytes (λ m bs. (m, bs))) (option_map (λ ns. n ∷ ns) numbers) ≡ option_map (λ bs. (n, bs)) (option_and_then (many_bytes (λ bs. bs)) numbers)
bytes_after_number n None = refl
bytes_after_number n (Some bs) = cond-bytes (λ m. (n, m)) bs (list_all fits_byte bs)

alone-word : {C : Type 0} (command : C) (first : Option ℕ) (numbers : Option (List ℕ)) → option_and_then (takes_none command) (cons_number first numbers) ≡ None
alone-word command None numbers = refl
alone-word command (Some n) None = refl
alone-word command (Some n) (Some ns) = refl

alone-parts : {C : Type 0} (command : C) (parts : List (List ℕ)) → 0 < length parts → option_and_then (takes_none command) (numbers_in parts) ≡ None
alone-parts command [] h = absurd (omega (arith, h))
alone-parts command (word ∷ parts) h = alone-word command (number_of word) (numbers_in parts)

-- no command without numbers has a further word
pub alone_not_last : {C : Type 0} (command : C) (bytes : List ℕ) → None ≡ option_and_then (takes_none command) (numbers_in (slice_split is_space bytes))
alone_not_last command bytes = sym (alone-parts command (slice_split is_space bytes) (let l = length-slice_split is_space bytes in omega (arith, l)))

-- the items of a list of words, one item more
pub item_after : (items : List ℕ) (n : ℕ) (others : Option (List ℕ)) → option_map (λ ns. items ++ ns) (option_map (λ ns. n ∷ ns) others) ≡ option_map (λ ns. (items ++ n ∷ []) ++ ns) others
item_after items n None = refl
item_after items n (Some ns) = ap Some (sym (append_assoc items (n ∷ []) ns))

-- the items in a buffer, one item more
pub buffer_after : (buffer : List ℕ) (count n : ℕ) (start others : Option (List ℕ)) → count < length buffer
    → start ≡ option_map (λ ns. take count buffer ++ ns) (option_map (λ ns. n ∷ ns) others) → start ≡ option_map (λ ns. take (count + 1) (set buffer count n) ++ ns) others
buffer_after buffer count n start others h e = rw (take-set_at buffer count (count + 1) n refl h) (e ∙ item_after (take count buffer) n others)

-- a number has a digit
pub number_of-length : (word : List ℕ) (n : ℕ) → number_of word ≡ Some n → 0 < length word
number_of-length word n e = let d = rw e at (number_of-IfSome word) in (IsNumeral-decimal word n d.1 d.0).some

byte_of-length-by : (word : List ℕ) (b : ℕ) (number : Option ℕ) → number_of word ≡ number → option_and_then (λ n. cond (fits_byte n) (Some n) None) number ≡ Some b → 0 < length word
byte_of-length-by word b None e h = cc
byte_of-length-by word b (Some n) e h = number_of-length word n e

-- a byte has a digit
pub byte_of-length : (word : List ℕ) (b : ℕ) → byte_of word ≡ Some b → 0 < length word
byte_of-length word b e = byte_of-length-by word b (number_of word) refl e

bytes-cons : (n : ℕ) (bs : List ℕ) (fits others : Bool) → cond (fits && others) (Some (n ∷ bs)) None ≡ option_and_then (λ b. option_map (λ ns. b ∷ ns) (cond others (Some bs) None)) (cond fits (Some n) None)
bytes-cons n bs false others = refl
bytes-cons n bs true true = refl
bytes-cons n bs true false = refl

bytes-None : (n : ℕ) (fits : Bool) → None ≡ option_and_then {U = List ℕ} (λ b. None) (cond fits (Some n) None)
bytes-None n true = refl
bytes-None n false = refl

bytes-numbers : (number : Option ℕ) (numbers : Option (List ℕ)) → option_and_then (many_bytes (λ bs. bs)) (cons_number number numbers)
    ≡ option_and_then (λ b. option_map (λ ns. b ∷ ns) (option_and_then (many_bytes (λ bs. bs)) numbers)) (option_and_then (λ n. cond (fits_byte n) (Some n) None) number)
bytes-numbers None numbers = refl
bytes-numbers (Some n) None = bytes-None n (fits_byte n)
bytes-numbers (Some n) (Some bs) = bytes-cons n bs (fits_byte n) (list_all fits_byte bs)

-- the bytes of a word and of those after it
pub bytes_of_word : (word : List ℕ) (words : List (List ℕ)) → option_and_then (many_bytes (λ bs. bs)) (numbers_in (word ∷ words))
    ≡ option_and_then (λ b. option_map (λ ns. b ∷ ns) (option_and_then (many_bytes (λ bs. bs)) (numbers_in words))) (byte_of word)
bytes_of_word word words = bytes-numbers (number_of word) (numbers_in words)

module _ {C : Type 0} where
  pub make_named-None : (make : Option (List ℕ → Option C)) → option_and_then (λ m. option_and_then m None) make ≡ None
  make_named-None None = refl
  make_named-None (Some m) = refl

  command_of-words : (forms : List (Form C)) (name : List ℕ) (words : List (List ℕ)) (numbers : Option (List ℕ)) → numbers_in words ≡ numbers → lookup (bytes_eq []) forms ≡ None
      → option_and_then (λ w. make_named forms w.0 (Some w.1)) (name_and_numbers (name ∷ words)) ≡ make_named forms name numbers
  command_of-words forms [] words numbers e none = rw none refl
  command_of-words forms (b ∷ name) words None e none = rw e (sym (make_named-None (lookup (bytes_eq (b ∷ name)) forms)))
  command_of-words forms (b ∷ name) words (Some ns) e none = rw e refl

  -- the command of a line that was split into its first word and the others
  pub command_of_split : (forms : List (Form C)) (line name : List ℕ) (words : List (List ℕ)) → slice_split is_space line ≡ name ∷ words → lookup (bytes_eq []) forms ≡ None
      → command_of forms line ≡ make_named forms name (numbers_in words)
  command_of_split forms line name words e none = rw e (command_of-words forms name words (numbers_in words) refl none)
