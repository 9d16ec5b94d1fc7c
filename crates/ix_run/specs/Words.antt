-- A line as words: a name, and numbers. A form is a name, and a function that makes a command of the numbers after it.
use Rattle.std.specs.Prelude.{ℕ, ◌≡◌, List, [], ◌∷◌, ◌++◌, length, Bool, true, not, ◌&&◌, nat_eq, nat_lt, nat_le, if◌then◌else◌, Option, None, Some, option_map, option_and_then, codes, decimal, bytes_eq, flat_map}
use Rattle.std.specs.Borrow.{Bor}
use Rattle.std.specs.List.{slice_split, IsDistinct, list_all, list_any}
use Rattle.std.specs.Map.{lookup, keys_of}
use Rattle.ix_slotmap.specs.Generations.{SlotKey, greatest_generation}
use Rattle.ix_run.specs.Reading.{number_of}

abbrev pub is_space : ℕ → Bool
is_space byte = nat_eq byte 32

abbrev pub is_colon : ℕ → Bool
is_colon byte = nat_eq byte 58

-- the text of a name and numbers: one space before each number
abbrev pub words_text : List ℕ → List ℕ → List ℕ
words_text name numbers = name ++ flat_map (λ n. codes " " ++ decimal n) numbers

-- the numbers below 2^64 whose texts the words are
abbrev pub numbers_in : List (List ℕ) → Option (List ℕ)
numbers_in [] = Some []
numbers_in (word ∷ words) = option_and_then (λ n. option_map (λ ns. n ∷ ns) (numbers_in words)) (number_of word)

-- the first word as a name, which is not empty, and the others as numbers
abbrev pub name_and_numbers : List (List ℕ) → Option (List ℕ × List ℕ)
name_and_numbers ((b ∷ name) ∷ words) = option_map (λ numbers. (b ∷ name, numbers)) (numbers_in words)
name_and_numbers other = None

-- the name and the numbers whose text the line is
abbrev pub line_words : List ℕ → Option (List ℕ × List ℕ)
line_words line = name_and_numbers (slice_split is_space line)

-- a number is a byte
abbrev pub fits_byte : ℕ → Bool
fits_byte n = nat_le n 255

-- a number is a generation
abbrev pub fits_generation : ℕ → Bool
fits_generation n = nat_le n greatest_generation

-- the text of a key: its index and its generation, with a colon between
abbrev pub key_text : SlotKey → List ℕ
key_text key = decimal key.index ++ (codes ":" ++ decimal key.generation)

-- two numbers are a key, if the second is a generation
abbrev pub key_of_numbers : List ℕ → Option SlotKey
key_of_numbers (i ∷ g ∷ []) = if fits_generation g then Some (record { index = i; generation = g }) else None
key_of_numbers other = None

-- the key whose text the word is
abbrev pub key_of : List ℕ → Option SlotKey
key_of word = option_and_then key_of_numbers (numbers_in (slice_split is_colon word))

-- the first word as a key, and the other words
abbrev pub key_and_words : List (List ℕ) → Option (SlotKey × List (List ℕ))
key_and_words [] = None
key_and_words (word ∷ words) = option_map (λ key. (key, words)) (key_of word)

-- the first word as a key, and the others as numbers
abbrev pub key_and_numbers : List (List ℕ) → Option (SlotKey × List ℕ)
key_and_numbers words = option_and_then (λ w. option_map (λ numbers. (w.0, numbers)) (numbers_in w.1)) (key_and_words words)

-- the first word as a name, which is not empty, the second as a key, and the others as numbers
abbrev pub name_key_numbers : List (List ℕ) → Option (List ℕ × (SlotKey × List ℕ))
name_key_numbers ((b ∷ name) ∷ words) = option_map (λ w. (b ∷ name, w)) (key_and_numbers words)
name_key_numbers other = None

-- the name, the key and the numbers whose text the line is
abbrev pub key_words_of : List ℕ → Option (List ℕ × (SlotKey × List ℕ))
key_words_of line = name_key_numbers (slice_split is_space line)

-- the text of a name, a key and numbers: one space before the key and before each number
abbrev pub key_words_text : List ℕ → SlotKey → List ℕ → List ℕ
key_words_text name key numbers = name ++ (codes " " ++ words_text (key_text key) numbers)

-- a name, and a function that makes a command of numbers
abbrev pub Form : Type 0 → Type 0
Form C = List ℕ × (List ℕ → Option C)

-- a name, and a function that makes a command of a key and numbers
abbrev pub KeyForm : Type 0 → Type 0
KeyForm C = List ℕ × (SlotKey → List ℕ → Option C)

-- a slice, whose address is left open
abbrev pub slice_of : {X : Type 0} → List X → Bor (List X)
slice_of xs = record { ref_ptr = (0, 0); now = xs }

-- a name has a byte, and no space
abbrev pub is_name : List ℕ → Bool
is_name name = nat_lt 0 (length name) && not (list_any is_space name)

-- the names are words, and no two of them are equal
abbrev pub HasNames : {V : Type 0} → List (List ℕ × V) → Type 0
HasNames forms = (list_all is_name (keys_of forms) ≡ true) × IsDistinct bytes_eq (keys_of forms)

module _ {C : Type 0} where
  -- the command that the form with this name makes of numbers
  abbrev pub make_named : List (Form C) → List ℕ → Option (List ℕ) → Option C
  make_named forms name numbers = option_and_then (λ make. option_and_then make numbers) (lookup (bytes_eq name) forms)

  -- the command that a line spells
  abbrev pub command_of : List (Form C) → List ℕ → Option C
  command_of forms line = option_and_then (λ words. make_named forms words.0 (Some words.1)) (line_words line)

  -- the command that the form with this name makes of a key and numbers
  abbrev pub make_with_key : List (KeyForm C) → List ℕ → Option (SlotKey × List ℕ) → Option C
  make_with_key forms name taken = option_and_then (λ make. option_and_then (λ t. make t.0 t.1) taken) (lookup (bytes_eq name) forms)

  -- the command with a key that a line spells
  abbrev pub key_command_of : List (KeyForm C) → List ℕ → Option C
  key_command_of forms line = option_and_then (λ words. make_with_key forms words.0 (Some words.1)) (key_words_of line)

  -- no numbers
  abbrev pub takes_none : C → List ℕ → Option C
  takes_none command [] = Some command
  takes_none command other = None

  -- one number
  abbrev pub takes_one : (ℕ → C) → List ℕ → Option C
  takes_one make (n ∷ []) = Some (make n)
  takes_one make other = None

  -- two numbers
  abbrev pub takes_two : (ℕ → ℕ → C) → List ℕ → Option C
  takes_two make (n ∷ m ∷ []) = Some (make n m)
  takes_two make other = None

  -- zero or more numbers
  abbrev pub takes_any : (List ℕ → C) → List ℕ → Option C
  takes_any make ns = Some (make ns)

  -- one byte
  abbrev pub one_byte : (ℕ → C) → List ℕ → Option C
  one_byte make (b ∷ []) = if fits_byte b then Some (make b) else None
  one_byte make other = None

  -- a number and a byte
  abbrev pub number_byte : (ℕ → ℕ → C) → List ℕ → Option C
  number_byte make (n ∷ b ∷ []) = if fits_byte b then Some (make n b) else None
  number_byte make other = None

  -- zero or more bytes
  abbrev pub many_bytes : (List ℕ → C) → List ℕ → Option C
  many_bytes make bs = if list_all fits_byte bs then Some (make bs) else None

  -- a number, and zero or more bytes
  abbrev pub number_many_bytes : (ℕ → List ℕ → C) → List ℕ → Option C
  number_many_bytes make (n ∷ bs) = if list_all fits_byte bs then Some (make n bs) else None
  number_many_bytes make [] = None
