-- The law of words: a line spells what one name and one list of numbers make.
use Rattle.std.proofs.Common.{ℕ, zero, suc, ◌≡◌, ◌<◌, ◌^◌, List, [], ◌∷◌, ◌++◌, Option, Some, None, IfSome, All, Contains, length, map, Bool, true, false, not, cond, nat_lt, decimal, bytes_eq, codes, refl, sym, ap, subst, ◌∙◌, arith}
use Rattle.std.specs.List.{slice_split, join_with_byte, flat_map, list_any, list_all}
use Rattle.std.specs.Map.{lookup, keys_of}
use Rattle.std.specs.Option.{option_and_then, option_map}
use Rattle.std.proofs.lemmas.Bool.{and_parts}
use Rattle.std.proofs.lemmas.Cmp.{nat_list_eq_equiv}
use Rattle.std.proofs.lemmas.List.{append-nil}
use Rattle.std.proofs.lemmas.List.Elements.{All-append, All-cons, All-head, All-nil, All-tail}
use Rattle.std.proofs.lemmas.List.Folds.{list_any_at}
use Rattle.std.proofs.lemmas.List.Splits.{slice_split_at, slice_split_none, join_with_byte-slice_split}
use Rattle.std.proofs.lemmas.Map.Views.{Contains-from_lookup, lookup-from_Contains}
use Rattle.std.proofs.lemmas.Slice.Eq.{bytes_eq-Decides}
use Rattle.std.proofs.lemmas.Grind.{common_steps}
use Rattle.ix_slotmap.specs.Generations.{SlotKey}
use Rattle.ix_run.specs.Laws.{IsSlotKey}
use Rattle.ix_run.specs.Reading.{number_of}
use Rattle.ix_run.specs.Words.{Form, KeyForm, HasNames, is_space, is_colon, is_name, fits_generation, words_text, line_words, numbers_in, name_and_numbers, make_named, command_of, key_text, key_of_numbers, key_of, key_and_numbers, name_key_numbers, key_words_of, key_words_text, make_with_key, key_command_of}
use Rattle.ix_run.proofs.Numbers.{IsNumeral-decimal, number_of-IfSome, number_of_decimal}
use Rattle.ix_run.proofs.Pieces.{not_true}
use Rattle.ix_run.proofs.Words.{cons_number, decimal-All, digits-no_colon}

-- the numbers are below 2^64, and the line of the words is their text
abbrev pub IsText : List ℕ → List (List ℕ) → List ℕ → Type 0
IsText name words numbers = (join_with_byte 32 (name ∷ words) ≡ words_text name numbers) × All (λ n. n < 2 ^ 64) numbers

IsText-cons : (name word : List ℕ) (words : List (List ℕ)) (number : Option ℕ) (numbers : Option (List ℕ)) → IfSome number (λ n. (word ≡ decimal n) × (n < 2 ^ 64))
    → IfSome numbers (IsText word words) → IfSome (cons_number number numbers) (IsText name (word ∷ words))
IsText-cons name word words None numbers d t = tt
IsText-cons name word words (Some n) None d t = tt
IsText-cons name word words (Some n) (Some ns) d t =
    let line : words_text word ns ≡ decimal n ++ flat_map (λ k. codes " " ++ decimal k) ns = ap (λ w. w ++ flat_map (λ k. codes " " ++ decimal k) ns) d.0 in
    (ap (λ rest. name ++ (32 ∷ rest)) (t.0 ∙ line), All-cons (λ k. k < 2 ^ 64) n ns d.1 t.1)

-- words that are numbers are the text of the numbers
pub numbers_in-IsText : (name : List ℕ) (words : List (List ℕ)) → IfSome (numbers_in words) (IsText name words)
numbers_in-IsText name [] = (sym (append-nil name), All-nil (λ n. n < 2 ^ 64))
numbers_in-IsText name (word ∷ words) = IsText-cons name word words (number_of word) (numbers_in words) (number_of-IfSome word) (numbers_in-IsText word words)

IsText-named : (name : List ℕ) (words : List (List ℕ)) (numbers : Option (List ℕ)) → IfSome numbers (IsText name words)
    → IfSome {T = List ℕ × List ℕ} (option_map (λ ns. (name, ns)) numbers) (λ w. (join_with_byte 32 (name ∷ words) ≡ words_text w.0 w.1) × All (λ n. n < 2 ^ 64) w.1)
IsText-named name words None t = tt
IsText-named name words (Some ns) t = t

-- no byte of a name is a space
All-is_name : (name : List ℕ) → list_any is_space name ≡ false → All (λ b. is_space b ≡ false) name
All-is_name name h = λ k d l. not_true (is_space _) (λ e. let some = list_any_at is_space name k d l e in cc)

-- the words of a text
pub slice_split-words_text : (name : List ℕ) (numbers : List ℕ) → All (λ b. is_space b ≡ false) name → All (λ n. n < 2 ^ 64) numbers
    → slice_split is_space (words_text name numbers) ≡ name ∷ map decimal numbers
slice_split-words_text name [] h a = rw (append-nil name) (slice_split_none is_space name h)
slice_split-words_text name (n ∷ ns) h a =
    let below = All-head (λ k. k < 2 ^ 64) n ns a in
    let others = All-tail (λ k. k < 2 ^ 64) n ns a in
    slice_split_at is_space name 32 (words_text (decimal n) ns) h refl ∙ ap (λ words. name ∷ words) (slice_split-words_text (decimal n) ns (decimal-All n below) others)

pub numbers_in-decimal : (numbers : List ℕ) → All (λ n. n < 2 ^ 64) numbers → numbers_in (map decimal numbers) ≡ Some numbers
numbers_in-decimal [] a = refl
numbers_in-decimal (n ∷ ns) a = rw (number_of_decimal (decimal n) n (All-head (λ k. k < 2 ^ 64) n ns a) refl, numbers_in-decimal ns (All-tail (λ k. k < 2 ^ 64) n ns a)) refl

-- a text has one name and one list of numbers
line_words-words_text : (name : List ℕ) (numbers : List ℕ) → is_name name ≡ true → All (λ n. n < 2 ^ 64) numbers → line_words (words_text name numbers) ≡ Some (name, numbers)
line_words-words_text [] numbers h a = absurd (cc)
line_words-words_text (b ∷ name) numbers h a =
    let none = not_true (list_any is_space (b ∷ name)) (λ e. let t = rw e at (and_parts (nat_lt 0 (length (b ∷ name))) (not (list_any is_space (b ∷ name))) h).1 in cc) in
    rw (slice_split-words_text (b ∷ name) numbers (All-is_name (b ∷ name) none) a, numbers_in-decimal numbers a) refl

IsText-name_and_numbers : (parts : List (List ℕ)) → IfSome (name_and_numbers parts) (λ w. (join_with_byte 32 parts ≡ words_text w.0 w.1) × All (λ n. n < 2 ^ 64) w.1)
IsText-name_and_numbers [] = tt
IsText-name_and_numbers ([] ∷ words) = tt
IsText-name_and_numbers ((b ∷ name) ∷ words) = IsText-named (b ∷ name) words (numbers_in words) (numbers_in-IsText (b ∷ name) words)

-- a line is the text of its name and its numbers
line_words-IsText : (line : List ℕ) → IfSome (line_words line) (λ w. (line ≡ words_text w.0 w.1) × All (λ n. n < 2 ^ 64) w.1)
line_words-IsText line = rw (join_with_byte-slice_split 32 line) at (IsText-name_and_numbers (slice_split is_space line))

module _ {C : Type 0} where
  -- the line is the text of a form's name and of numbers that make the command
  abbrev Spells : List (Form C) → List ℕ → C → Type 0
  Spells forms line command =
      (form : Form C) × (numbers : List ℕ) × Contains forms form × All (λ n. n < 2 ^ 64) numbers × (form.1 numbers ≡ Some command) × (line ≡ words_text form.0 numbers)

  Spells-make : (forms : List (Form C)) (line name numbers : List ℕ) (command : C) (make : Option (List ℕ → Option C)) → lookup (bytes_eq name) forms ≡ make
      → option_and_then (λ m. option_and_then m (Some numbers)) make ≡ Some command → line ≡ words_text name numbers → All (λ n. n < 2 ^ 64) numbers → Spells forms line command
  Spells-make forms line name numbers command None found e text a = absurd (cc)
  Spells-make forms line name numbers command (Some make) found e text a =
      ((name, make), numbers, Contains-from_lookup (λ x y same. (bytes_eq-Decides x y).0 same) name make forms found, a, e, text)

  Spells-words : (forms : List (Form C)) (line : List ℕ) (command : C) (words : Option (List ℕ × List ℕ)) → IfSome words (λ w. (line ≡ words_text w.0 w.1) × All (λ n. n < 2 ^ 64) w.1)
      → option_and_then (λ w. make_named forms w.0 (Some w.1)) words ≡ Some command → Spells forms line command
  Spells-words forms line command None t e = absurd (cc)
  Spells-words forms line command (Some (name, numbers)) t e = Spells-make forms line name numbers command (lookup (bytes_eq name) forms) refl e t.0 t.1

  -- a line that has a command is the text of a form and of numbers that make it
  pub command_of-Spells : (forms : List (Form C)) (line : List ℕ) (command : C) → command_of forms line ≡ Some command → Spells forms line command
  command_of-Spells forms line command e = Spells-words forms line command (line_words line) (line_words-IsText line) e

  is_name-form : (forms : List (Form C)) (form : Form C) → Contains forms form → list_all is_name (keys_of forms) ≡ true → is_name form.0 ≡ true
  is_name-form [] form (k, l, e) h = absurd (omega (arith, l))
  is_name-form (f ∷ forms) form (zero, l, e) h = ap (λ g. is_name g.0) (sym e) ∙ (and_parts (is_name f.0) (list_all is_name (keys_of forms)) h).0
  is_name-form (f ∷ forms) form (suc k, l, e) h = is_name-form forms form (k, omega (arith, l), e) (and_parts (is_name f.0) (list_all is_name (keys_of forms)) h).1

  -- the text of a form's name and of numbers is what the form makes of them
  pub command_of-words_text : (forms : List (Form C)) (form : Form C) (numbers : List ℕ) → HasNames forms → Contains forms form → All (λ n. n < 2 ^ 64) numbers
      → command_of forms (words_text form.0 numbers) ≡ form.1 numbers
  command_of-words_text forms form numbers (names, distinct) has a =
      rw (line_words-words_text form.0 numbers (is_name-form forms form has names) a, lookup-from_Contains nat_list_eq_equiv form.0 form.1 forms distinct has) refl

key-fits : (p q : List ℕ) (i g : ℕ) (fits : Bool) → fits_generation g ≡ fits → (p ≡ decimal i) × (i < 2 ^ 64) → (q ≡ decimal g) × (g < 2 ^ 64)
    → IfSome (cond fits (Some (record { index = i; generation = g })) None) (λ key. (p ++ (58 ∷ q) ≡ key_text key) × IsSlotKey key)
key-fits p q i g true e d c = (ap (λ l. l ++ (58 ∷ q)) d.0 ∙ ap (λ l. decimal i ++ (58 ∷ l)) c.0, (d.1, grind (arith, common_steps)))
key-fits p q i g false e d c = tt

key-two : (p q : List ℕ) (first second : Option ℕ) → IfSome first (λ n. (p ≡ decimal n) × (n < 2 ^ 64)) → IfSome second (λ n. (q ≡ decimal n) × (n < 2 ^ 64))
    → IfSome (option_and_then key_of_numbers (cons_number first (cons_number second (Some [])))) (λ key. (p ++ (58 ∷ q) ≡ key_text key) × IsSlotKey key)
key-two p q None second d c = tt
key-two p q (Some i) None d c = tt
key-two p q (Some i) (Some g) d c = key-fits p q i g (fits_generation g) refl d c

key-one : (first : Option ℕ) → option_and_then key_of_numbers (cons_number first (Some [])) ≡ None
key-one None = refl
key-one (Some i) = refl

key-many : (first second third : Option ℕ) (numbers : Option (List ℕ)) → option_and_then key_of_numbers (cons_number first (cons_number second (cons_number third numbers))) ≡ None
key-many None second third numbers = refl
key-many (Some i) None third numbers = refl
key-many (Some i) (Some g) None numbers = refl
key-many (Some i) (Some g) (Some n) None = refl
key-many (Some i) (Some g) (Some n) (Some ns) = refl

key-parts : (parts : List (List ℕ)) → IfSome (option_and_then key_of_numbers (numbers_in parts)) (λ key. (join_with_byte 58 parts ≡ key_text key) × IsSlotKey key)
key-parts [] = tt
key-parts (p ∷ []) = rw (key-one (number_of p)) tt
key-parts (p ∷ q ∷ []) = key-two p q (number_of p) (number_of q) (number_of-IfSome p) (number_of-IfSome q)
key-parts (p ∷ q ∷ r ∷ parts) = rw (key-many (number_of p) (number_of q) (number_of r) (numbers_in parts)) tt

-- a word that is read as a key is its text
key_of-text : (word : List ℕ) → IfSome (key_of word) (λ key. (word ≡ key_text key) × IsSlotKey key)
key_of-text word = rw (join_with_byte-slice_split 58 word) at (key-parts (slice_split is_colon word))

-- the text of a key has no space
key_text-All : (key : SlotKey) → IsSlotKey key → All (λ b. is_space b ≡ false) (key_text key)
key_text-All key (i, g) =
    All-append (λ b. is_space b ≡ false) (decimal key.index) (58 ∷ decimal key.generation) (decimal-All key.index i)
    (All-cons (λ b. is_space b ≡ false) 58 (decimal key.generation) refl (decimal-All key.generation (omega (arith, g))))

decimal-no_colon : (n : ℕ) → n < 2 ^ 64 → All (λ b. is_colon b ≡ false) (decimal n)
decimal-no_colon n h = digits-no_colon (decimal n) (IsNumeral-decimal (decimal n) n h refl).digits

-- the text of a key is read as that key
key_of-key_text : (key : SlotKey) → IsSlotKey key → key_of (key_text key) ≡ Some key
key_of-key_text key (i, g) =
    let below : key.generation < 2 ^ 64 = omega (arith, g) in
    let parts = slice_split_at is_colon (decimal key.index) 58 (decimal key.generation) (decimal-no_colon key.index i) refl
    ∙ ap (λ ps. decimal key.index ∷ ps) (slice_split_none is_colon (decimal key.generation) (decimal-no_colon key.generation below)) in
    let fits : fits_generation key.generation ≡ true = grind (arith, common_steps) in
    ap (λ ps. option_and_then key_of_numbers (numbers_in ps)) parts
    ∙ rw (number_of_decimal (decimal key.index) key.index i refl, number_of_decimal (decimal key.generation) key.generation below refl, fits) refl

-- the parts are the text of a name, a key and numbers
abbrev IsKeyWords : List (List ℕ) → List ℕ × (SlotKey × List ℕ) → Type 0
IsKeyWords parts w = (join_with_byte 32 parts ≡ key_words_text w.0 w.1.0 w.1.1) × (IsSlotKey w.1.0 × All (λ n. n < 2 ^ 64) w.1.1)

key-numbers : (name word : List ℕ) (words : List (List ℕ)) (key : SlotKey) (numbers : Option (List ℕ)) → (word ≡ key_text key) × IsSlotKey key → IfSome numbers (IsText word words)
    → IfSome {T = List ℕ × (SlotKey × List ℕ)} (option_map (λ w. (name, w)) (option_map (λ ns. (key, ns)) numbers)) (IsKeyWords (name ∷ word ∷ words))
key-numbers name word words key None h t = tt
key-numbers name word words key (Some ns) h t = (ap (λ l. name ++ (32 ∷ l)) (t.0 ∙ ap (λ w. words_text w ns) h.0), (h.1, t.1))

key-named : (name word : List ℕ) (words : List (List ℕ)) (key : Option SlotKey) → IfSome key (λ k. (word ≡ key_text k) × IsSlotKey k)
    → IfSome {T = List ℕ × (SlotKey × List ℕ)} (option_map (λ w. (name, w)) (option_and_then {U = SlotKey × List ℕ} (λ w. option_map (λ ns. (w.0, ns)) (numbers_in w.1)) (option_map {U = SlotKey × List (List ℕ)} (λ k. (k, words)) key)))
    (IsKeyWords (name ∷ word ∷ words))
key-named name word words None h = tt
key-named name word words (Some k) h = key-numbers name word words k (numbers_in words) h (numbers_in-IsText word words)

name_key_numbers-text : (parts : List (List ℕ)) → IfSome (name_key_numbers parts) (IsKeyWords parts)
name_key_numbers-text [] = tt
name_key_numbers-text ([] ∷ words) = tt
name_key_numbers-text ((b ∷ name) ∷ []) = tt
name_key_numbers-text ((b ∷ name) ∷ word ∷ words) = key-named (b ∷ name) word words (key_of word) (key_of-text word)

-- a line is the text of its name, its key and its numbers
key_words_of-text : (line : List ℕ) → IfSome (key_words_of line) (λ w. (line ≡ key_words_text w.0 w.1.0 w.1.1) × (IsSlotKey w.1.0 × All (λ n. n < 2 ^ 64) w.1.1))
key_words_of-text line =
    subst (λ text. IfSome (key_words_of line) (λ w. (text ≡ key_words_text w.0 w.1.0 w.1.1) × (IsSlotKey w.1.0 × All (λ n. n < 2 ^ 64) w.1.1))) (join_with_byte-slice_split 32 line) (name_key_numbers-text (slice_split is_space line))

key_words_of-key_words_text : (name : List ℕ) (key : SlotKey) (numbers : List ℕ) → is_name name ≡ true → IsSlotKey key → All (λ n. n < 2 ^ 64) numbers
    → key_words_of (key_words_text name key numbers) ≡ Some (name, (key, numbers))
key_words_of-key_words_text [] key numbers h k a = absurd (cc)
key_words_of-key_words_text (b ∷ name) key numbers h k a =
    let none = not_true (list_any is_space (b ∷ name)) (λ e. let t = rw e at (and_parts (nat_lt 0 (length (b ∷ name))) (not (list_any is_space (b ∷ name))) h).1 in cc) in
    let words = slice_split_at is_space (b ∷ name) 32 (words_text (key_text key) numbers) (All-is_name (b ∷ name) none) refl
    ∙ ap (λ ws. (b ∷ name) ∷ ws) (slice_split-words_text (key_text key) numbers (key_text-All key k) a) in
    ap name_key_numbers words ∙ rw (key_of-key_text key k, numbers_in-decimal numbers a) refl

-- a number is no key
number-no_key : (word : List ℕ) (n : ℕ) → number_of word ≡ Some n → key_of word ≡ None
number-no_key word n e =
    let d = rw e at (number_of-IfSome word) in
    let one = slice_split_none is_colon word (digits-no_colon word (IsNumeral-decimal word n d.1 d.0).digits) in
    ap (λ ps. option_and_then key_of_numbers (numbers_in ps)) one ∙ rw e refl

no_key-first : (name word : List ℕ) (words : List (List ℕ)) (number : Option ℕ) (w : List ℕ × List ℕ) → number_of word ≡ number
    → option_map (λ numbers. (name, numbers)) (cons_number number (numbers_in words)) ≡ Some w
    → option_map {U = List ℕ × (SlotKey × List ℕ)} (λ w. (name, w)) (key_and_numbers (word ∷ words)) ≡ None
no_key-first name word words None w e some = absurd (cc)
no_key-first name word words (Some n) w e some = rw (number-no_key word n e) refl

-- a name and numbers are no name and key
no_key : (parts : List (List ℕ)) (w : List ℕ × List ℕ) → name_and_numbers parts ≡ Some w → name_key_numbers parts ≡ None
no_key [] w e = refl
no_key ([] ∷ words) w e = refl
no_key ((b ∷ name) ∷ []) w e = refl
no_key ((b ∷ name) ∷ word ∷ words) w e = no_key-first (b ∷ name) word words (number_of word) w refl e

module _ {C : Type 0} where
  -- the line is the text of a form's name, a key and numbers that make the command
  abbrev SpellsKey : List (KeyForm C) → List ℕ → C → Type 0
  SpellsKey forms line command =
      (form : KeyForm C) × (key : SlotKey) × (numbers : List ℕ) × Contains forms form × IsSlotKey key × All (λ n. n < 2 ^ 64) numbers × (form.1 key numbers ≡ Some command)
      × (line ≡ key_words_text form.0 key numbers)

  SpellsKey-make : (forms : List (KeyForm C)) (line name : List ℕ) (key : SlotKey) (numbers : List ℕ) (command : C) (make : Option (SlotKey → List ℕ → Option C)) → lookup (bytes_eq name) forms ≡ make
      → option_and_then (λ m. m key numbers) make ≡ Some command → line ≡ key_words_text name key numbers → IsSlotKey key → All (λ n. n < 2 ^ 64) numbers → SpellsKey forms line command
  SpellsKey-make forms line name key numbers command None found e text k a = absurd (cc)
  SpellsKey-make forms line name key numbers command (Some make) found e text k a =
      ((name, make), key, numbers, Contains-from_lookup (λ x y same. (bytes_eq-Decides x y).0 same) name make forms found, k, a, e, text)

  SpellsKey-words : (forms : List (KeyForm C)) (line : List ℕ) (command : C) (words : Option (List ℕ × (SlotKey × List ℕ)))
      → IfSome words (λ w. (line ≡ key_words_text w.0 w.1.0 w.1.1) × (IsSlotKey w.1.0 × All (λ n. n < 2 ^ 64) w.1.1))
      → option_and_then (λ w. make_with_key forms w.0 (Some w.1)) words ≡ Some command → SpellsKey forms line command
  SpellsKey-words forms line command None t e = absurd (cc)
  SpellsKey-words forms line command (Some (name, (key, numbers))) t e = SpellsKey-make forms line name key numbers command (lookup (bytes_eq name) forms) refl e t.0 t.1.0 t.1.1

  -- a line that has a command with a key is the text of a form, and of a key and numbers that make it
  pub key_command_of-Spells : (forms : List (KeyForm C)) (line : List ℕ) (command : C) → key_command_of forms line ≡ Some command → SpellsKey forms line command
  key_command_of-Spells forms line command e = SpellsKey-words forms line command (key_words_of line) (key_words_of-text line) e

  is_name-key_form : (forms : List (KeyForm C)) (form : KeyForm C) → Contains forms form → list_all is_name (keys_of forms) ≡ true → is_name form.0 ≡ true
  is_name-key_form [] form (k, l, e) h = absurd (omega (arith, l))
  is_name-key_form (f ∷ forms) form (zero, l, e) h = ap (λ g. is_name g.0) (sym e) ∙ (and_parts (is_name f.0) (list_all is_name (keys_of forms)) h).0
  is_name-key_form (f ∷ forms) form (suc k, l, e) h = is_name-key_form forms form (k, omega (arith, l), e) (and_parts (is_name f.0) (list_all is_name (keys_of forms)) h).1

  -- the text of a form's name, a key and numbers is what the form makes of them
  pub key_command_of-key_words_text : (forms : List (KeyForm C)) (form : KeyForm C) (key : SlotKey) (numbers : List ℕ) → HasNames forms → Contains forms form → IsSlotKey key → All (λ n. n < 2 ^ 64) numbers
      → key_command_of forms (key_words_text form.0 key numbers) ≡ form.1 key numbers
  key_command_of-key_words_text forms form key numbers (names, distinct) has k a =
      rw (key_words_of-key_words_text form.0 key numbers (is_name-key_form forms form has names) k a, lookup-from_Contains nat_list_eq_equiv form.0 form.1 forms distinct has) refl

  either-words : (forms : List (Form C)) (key_forms : List (KeyForm C)) (line : List ℕ) (command : C) (words : Option (List ℕ × List ℕ)) → line_words line ≡ words
      → option_and_then (λ w. make_named forms w.0 (Some w.1)) words ≡ Some command → key_command_of key_forms line ≡ None
  either-words forms key_forms line command None is e = absurd (cc)
  either-words forms key_forms line command (Some w) is e = rw (no_key (slice_split is_space line) w is) refl

  -- a line that spells a command without a key spells none with one
  pub command_of-either : (forms : List (Form C)) (key_forms : List (KeyForm C)) (line : List ℕ) (command : C) → command_of forms line ≡ Some command → key_command_of key_forms line ≡ None
  command_of-either forms key_forms line command e = either-words forms key_forms line command (line_words line) refl e
