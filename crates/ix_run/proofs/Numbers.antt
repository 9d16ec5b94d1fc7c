-- Words that are numbers.
use Rattle.std.proofs.Common.{ℕ, ◌≡◌, ◌<◌, ◌≤◌, ◌+◌, ◌-◌, ◌*◌, ◌^◌, zero, suc, List, [], ◌∷◌, ◌++◌, Option, Some, None, IfSome, SomeIff, length, take, drop, get_or, nat_eq, nat_lt, bytes_eq, Bool, true, false, ◌&&◌, refl, sym, ap, ◌∙◌, rules, arith, decimal, cond, true≢false}
use Rattle.std.specs.Char.{is_ascii_digit}
use Rattle.std.proofs.Math.Nat.{pow-suc, pow-le-pow_right}
use Rattle.std.proofs.lemmas.List.{take-append-drop, length-take-le, nil_from_length}
use Rattle.std.proofs.Math.Bool.{and_assoc}
use Rattle.std.specs.Str.{all_ascii_digits}
use Rattle.std.specs.Str.Parse.{AllDigits, digits_value, without_leading_plus}
use Rattle.std.proofs.lemmas.Bool.{and_parts, eqb-true}
use Rattle.std.proofs.lemmas.Grind.{common_steps}
use Rattle.std.proofs.lemmas.Str.Parse.{IsNumeralModel, numerals_by_fold}
use Rattle.std.proofs.lemmas.Fmt.{digits_decimal, digits_value-decimal, decimal-digits_value, decimal_nonempty, first_decimal, decimal_digit}
use Rattle.std.proofs.lemmas.Slice.Eq.{bytes_eq-Decides}
use Rattle.ix_run.specs.Reading.{digits_value_from, number_of}
use Rattle.ix_run.proofs.Pieces.{not_true}

-- our value of digits is that of std's numerals
digits_value_from-IsNumeralModel : IsNumeralModel (λ digits. all_ascii_digits digits ≡ true) (digits_value_from 0)
digits_value_from-IsNumeralModel = numerals_by_fold _ (search rules) digits_value_from (search rules)

-- a word that does not begin with a plus
pub without_leading_plus-same : (word : List ℕ) → (get_or word 0 0 ≡ 43 → ⊥) → without_leading_plus word ≡ word
without_leading_plus-same word other = rw (not_true (nat_eq (get_or word 0 0) 43) (λ e. other (eqb-true (get_or word 0 0) 43 e))) refl

-- what the kit's parsing tells of a word, in our own value of digits
pub value_of_numeral : (word : List ℕ) (x : ℕ) → ((0 < length word) × AllDigits 10 word) × (digits_value 10 word < 2 ^ 64) → x ≡ digits_value 10 word
    → ((all_ascii_digits word ≡ true) × (digits_value_from 0 word < 2 ^ 64)) × (x ≡ digits_value_from 0 word)
value_of_numeral word x ((some, digits), small) value =
    let same = digits_value_from-IsNumeralModel.same word digits in
    ((digits_value_from-IsNumeralModel.from word digits, rw same small), value ∙ sym same)

pub no_numeral : (word : List ℕ) → 0 < length word → (((0 < length word) × AllDigits 10 word) × (digits_value 10 word < 2 ^ 64) → ⊥) → (all_ascii_digits word ≡ true) × (digits_value_from 0 word < 2 ^ 64) → ⊥
no_numeral word some none (digits, small) =
    let all = digits_value_from-IsNumeralModel.to word digits in
    none ((some, all), rw (sym (digits_value_from-IsNumeralModel.same word all)) small)

length-decimal_zero : (n : ℕ) → n < 2 ^ 64 → get_or (decimal n) 0 0 ≡ 48 → length (decimal n) ≡ 1
length-decimal_zero zero h e = rw (decimal_digit 0 (omega arith)) refl
length-decimal_zero (suc n) h e = absurd (let f = first_decimal (suc n) (omega arith) h in omega (arith, f, e))

-- a decimal text: it is not empty, has no leading zero and only digits, and has this value
pub record IsNumeral (word : List ℕ) (n : ℕ) : Type 0 where
  pub some : 0 < length word
  pub front : get_or word 0 0 ≡ 48 → length word ≡ 1
  pub digits : all_ascii_digits word ≡ true
  pub value : digits_value_from 0 word ≡ n

pub IsNumeral-decimal : (word : List ℕ) (n : ℕ) → n < 2 ^ 64 → word ≡ decimal n → IsNumeral word n
IsNumeral-decimal word n h e =
    rw e (record {
      some = decimal_nonempty n h;
      front = length-decimal_zero n h;
      digits = digits_decimal digits_value_from-IsNumeralModel n h;
      value = digits_value-decimal digits_value_from-IsNumeralModel n h;
    })

-- a word of digits without leading zeros is a number
pub number_of-digits : (word : List ℕ) → 0 < length word → (get_or word 0 0 ≡ 48 → length word ≡ 1) → all_ascii_digits word ≡ true → digits_value_from 0 word < 2 ^ 64
    → number_of word ≡ Some (digits_value_from 0 word)
number_of-digits word some front digits small =
    let e : decimal (digits_value_from 0 word) ≡ word = decimal-digits_value digits_value_from-IsNumeralModel word digits some front small in
    let t : nat_lt (digits_value_from 0 word) (2 ^ 64) ≡ true = grind (arith, common_steps) in
    let u : bytes_eq (decimal (digits_value_from 0 word)) word ≡ true = (bytes_eq-Decides (decimal (digits_value_from 0 word)) word).1 e in
    rw (t, u) refl

abbrev is_number : List ℕ → Bool
is_number word = nat_lt (digits_value_from 0 word) (2 ^ 64) && bytes_eq (decimal (digits_value_from 0 word)) word

-- the word is the decimal text of its value
is_number-decimal : (word : List ℕ) → is_number word ≡ true → (word ≡ decimal (digits_value_from 0 word)) × (digits_value_from 0 word < 2 ^ 64)
is_number-decimal word e =
    let p = and_parts (nat_lt (digits_value_from 0 word) (2 ^ 64)) (bytes_eq (decimal (digits_value_from 0 word)) word) e in
    let q : nat_lt (digits_value_from 0 word) (2 ^ 64) ≡ true = p.0 in
    let small : digits_value_from 0 word < 2 ^ 64 = grind (arith, common_steps) in
    (sym ((bytes_eq-Decides (decimal (digits_value_from 0 word)) word).0 p.1), small)

cond-none : (word : List ℕ) (t : Bool) → is_number word ≡ t → ((n : ℕ) → n < 2 ^ 64 → word ≡ decimal n → ⊥) → cond t (Some (digits_value_from 0 word)) None ≡ None
cond-none word true e not_one = let p = is_number-decimal word e in absurd (not_one (digits_value_from 0 word) p.1 p.0)
cond-none word false e not_one = refl

-- a word that is the text of no number
pub number_of-none : (word : List ℕ) → ((n : ℕ) → n < 2 ^ 64 → word ≡ decimal n → ⊥) → number_of word ≡ None
number_of-none word not_one = cond-none word _ refl not_one

-- the text of a number is read as that number
pub number_of_decimal : (word : List ℕ) (n : ℕ) → n < 2 ^ 64 → word ≡ decimal n → number_of word ≡ Some n
number_of_decimal word n h e =
    let w = IsNumeral-decimal word n h e in
    number_of-digits word w.some w.front w.digits (rw w.value h) ∙ ap (λ k. Some k) w.value

cond-decimal : (word : List ℕ) (t : Bool) → is_number word ≡ t → IfSome (cond t (Some (digits_value_from 0 word)) None) (λ n. (word ≡ decimal n) × (n < 2 ^ 64))
cond-decimal word true e = is_number-decimal word e
cond-decimal word false e = tt

-- a word is the text of the number that is read, which is below 2^64
pub number_of-IfSome : (word : List ℕ) → IfSome (number_of word) (λ n. (word ≡ decimal n) × (n < 2 ^ 64))
number_of-IfSome word = cond-decimal word _ refl

IfSome-decimal : (word : List ℕ) (o : Option ℕ) → IfSome o (λ n. (word ≡ decimal n) × (n < 2 ^ 64)) → IfSome o (λ n. word ≡ decimal n)
IfSome-decimal word None h = tt
IfSome-decimal word (Some n) h = h.0

pub number_of_text : (word : List ℕ) → IfSome (number_of word) (λ n. word ≡ decimal n)
number_of_text word = IfSome-decimal word (number_of word) (number_of-IfSome word)

-- the value of the digits is the number
pub number_of-SomeIff : (word : List ℕ) (r : Option ℕ) → SomeIff r ((all_ascii_digits word ≡ true) × (digits_value_from 0 word < 2 ^ 64)) (digits_value_from 0 word)
    → 0 < length word → (get_or word 0 0 ≡ 48 → length word ≡ 1) → r ≡ number_of word
number_of-SomeIff word (Some x) ((d, s), e) some front = ap (λ k. Some k) e ∙ sym (number_of-digits word some front d s)
number_of-SomeIff word None h some front = sym (number_of-none word (λ n l e. let w = IsNumeral-decimal word n l e in h (w.digits, rw w.value l)))

-- one digit more
pub next_digit : (value digit j k : ℕ) → value < 10 ^ (j + k) → digit ≤ 9 → value * 10 + digit < 10 ^ (j + (k + 1))
next_digit value digit j k h d =
    let e : 10 ^ suc (j + k) ≡ 10 ^ (j + k) * 10 = pow-suc 10 (j + k) in
    let s : j + (k + 1) ≡ suc (j + k) = omega arith in
    rw s (omega (arith, e, h, d))

pub few_digits_fit : (value k : ℕ) → value < 10 ^ k → k ≤ 19 → value < 2 ^ 64
few_digits_fit value k h l = let most : 10 ^ k ≤ 10 ^ 19 = pow-le-pow_right (omega arith) l in omega (arith, h, most)

pub below_more_digits : (value j k : ℕ) → value < 10 ^ j → j ≤ k → value < 10 ^ k
below_more_digits value j k h l = let more : 10 ^ j ≤ 10 ^ k = pow-le-pow_right (omega arith) l in omega (arith, h, more)

digits_value_from-append : (n : ℕ) (xs ys : List ℕ) → digits_value_from n (xs ++ ys) ≡ digits_value_from (digits_value_from n xs) ys
digits_value_from-append n [] ys = refl
digits_value_from-append n (x ∷ xs) ys = digits_value_from-append (n * 10 + (x - 48)) xs ys

all_ascii_digits-append : (xs ys : List ℕ) → all_ascii_digits (xs ++ ys) ≡ (all_ascii_digits xs && all_ascii_digits ys)
all_ascii_digits-append [] ys = refl
all_ascii_digits-append (x ∷ xs) ys = ap (λ t. is_ascii_digit x && t) (all_ascii_digits-append xs ys) ∙ sym (and_assoc (is_ascii_digit x) (all_ascii_digits xs) (all_ascii_digits ys))

-- the first digits of a word, and those after them
all_ascii_digits-parts : (word : List ℕ) (k : ℕ) → all_ascii_digits word ≡ (all_ascii_digits (take k word) && all_ascii_digits (drop k word))
all_ascii_digits-parts word k = ap all_ascii_digits (sym (take-append-drop k word)) ∙ all_ascii_digits-append (take k word) (drop k word)

digits_value_from-parts : (n : ℕ) (word : List ℕ) (k : ℕ) → digits_value_from n word ≡ digits_value_from (digits_value_from n (take k word)) (drop k word)
digits_value_from-parts n word k = ap (digits_value_from n) (sym (take-append-drop k word)) ∙ digits_value_from-append n (take k word) (drop k word)

-- a byte is a digit
abbrev pub IsDigit : ℕ → Type 0
IsDigit x = (48 ≤ x) × (x ≤ 57)

-- a first digit, and the digits after it
record FirstDigit (xs : List ℕ) (n : ℕ) : Type 0 where
  pub digit : ℕ
  pub rest : List ℕ
  pub is : xs ≡ digit ∷ rest
  pub len : length rest ≡ n
  pub digits : all_ascii_digits rest ≡ true
  pub bounds : IsDigit digit

first_digit : (xs : List ℕ) (n : ℕ) → length xs ≡ suc n → all_ascii_digits xs ≡ true → FirstDigit xs n
first_digit [] n e h = absurd (omega (arith, e))
first_digit (x ∷ xs) n e h =
    let parts = and_parts (is_ascii_digit x) (all_ascii_digits xs) h in
    let test : is_ascii_digit x ≡ true = parts.0 in
    let low : 48 ≤ x = grind (arith, common_steps) in
    let high : x ≤ 57 = grind (arith, common_steps) in
    record { digit = x; rest = xs; is = refl; len = omega (arith, e); digits = parts.1; bounds = (low, high) }

-- eight digits, one by one
pub record EightDigits (xs : List ℕ) : Type 0 where
  pub a : ℕ
  pub b : ℕ
  pub c : ℕ
  pub d : ℕ
  pub e : ℕ
  pub f : ℕ
  pub g : ℕ
  pub h : ℕ
  pub is : xs ≡ a ∷ b ∷ c ∷ d ∷ e ∷ f ∷ g ∷ h ∷ []
  pub bounds : IsDigit a × IsDigit b × IsDigit c × IsDigit d × IsDigit e × IsDigit f × IsDigit g × IsDigit h

pub eight_digits : (xs : List ℕ) → length xs ≡ 8 → all_ascii_digits xs ≡ true → EightDigits xs
eight_digits xs len all =
    let a = first_digit xs 7 len all in
    let b = first_digit a.rest 6 a.len a.digits in
    let c = first_digit b.rest 5 b.len b.digits in
    let d = first_digit c.rest 4 c.len c.digits in
    let e = first_digit d.rest 3 d.len d.digits in
    let f = first_digit e.rest 2 e.len e.digits in
    let g = first_digit f.rest 1 f.len f.digits in
    let h = first_digit g.rest 0 g.len g.digits in
    record {
      a = a.digit;
      b = b.digit;
      c = c.digit;
      d = d.digit;
      e = e.digit;
      f = f.digit;
      g = g.digit;
      h = h.digit;
      is = a.is ∙ ap (λ r. a.digit ∷ r) (b.is ∙ ap (λ r. b.digit ∷ r) (c.is ∙ ap (λ r. c.digit ∷ r) (d.is ∙ ap (λ r. d.digit ∷ r) (e.is ∙ ap (λ r. e.digit ∷ r)
          (f.is ∙ ap (λ r. f.digit ∷ r) (g.is ∙ ap (λ r. g.digit ∷ r) (h.is ∙ ap (λ r. h.digit ∷ r) (nil_from_length h.rest h.len))))))));
      bounds = (a.bounds, b.bounds, c.bounds, d.bounds, e.bounds, f.bounds, g.bounds, h.bounds);
    }

value_after_eight : (n : ℕ) (xs : List ℕ) → EightDigits xs → digits_value_from n xs ≡ n * 100000000 + digits_value_from 0 xs
value_after_eight n xs eight = rw eight.is (omega arith)

-- a word that begins with eight digits, from the rest of it
pub after_eight : (word first rest : List ℕ) (n : ℕ) → 8 ≤ length word → first ≡ take 8 word → rest ≡ drop 8 word → all_ascii_digits first ≡ true
    → (all_ascii_digits word ≡ all_ascii_digits rest) × (digits_value_from n word ≡ digits_value_from (n * 100000000 + digits_value_from 0 first) rest)
after_eight word first rest n long front back digits =
    let len : length first ≡ 8 = ap length front ∙ length-take-le 8 word long in (
      all_ascii_digits-parts word 8 ∙ rw (sym front, sym back, digits) refl,
      digits_value_from-parts n word 8 ∙ rw (sym front, sym back) (ap (λ m. digits_value_from m rest) (value_after_eight n first (eight_digits first len digits))),
    )

pub not_after_eight : (word first : List ℕ) → first ≡ take 8 word → all_ascii_digits first ≡ false → all_ascii_digits word ≡ true → ⊥
not_after_eight word first front none all =
    let parts = and_parts (all_ascii_digits (take 8 word)) (all_ascii_digits (drop 8 word)) (sym (all_ascii_digits-parts word 8) ∙ all) in
    true≢false (sym parts.0 ∙ ap all_ascii_digits (sym front) ∙ none)
