-- Lines that are headers.
use Rattle.std.proofs.Common.{ℕ, ◌≡◌, ◌≤◌, ◌<◌, ◌^◌, ◌==◌, List, [], ◌∷◌, ◌++◌, Option, Some, None, IfSome, Bool, true, false, cond, nat_le, decimal, bytes_eq, codes, append_assoc, refl, sym, ap, subst, ◌∙◌, arith}
use Rattle.std.specs.Option.{option_and_then, option_map}
use Rattle.std.specs.List.{find, slice_split, join_with_byte}
use Rattle.std.specs.Map.{lookup}
use Rattle.std.proofs.lemmas.Bool.{eqb-true}
use Rattle.std.proofs.lemmas.Grind.{common_steps}
use Rattle.std.proofs.lemmas.List.{append-nil}
use Rattle.std.proofs.lemmas.List.Splits.{slice_split_at, slice_split_none, join_with_byte-slice_split}
use Rattle.std.proofs.lemmas.Option.{IfSome_then}
use Rattle.std.proofs.lemmas.Slice.Eq.{bytes_eq-Decides}
use Rattle.ix_slotmap.specs.Generations.{greatest_generation}
use Rattle.ix_run.specs.Words.{is_space, fits_generation, words_text, numbers_in, make_named, takes_one}
use Rattle.ix_run.specs.Headers.{IsStorage, IsStart, capacity_of, with_start, starting_at, container_with_start, fixed_capacity, container_name, containers, named_container, storage_text, storage_forms, takes_fixed_capacity, fixed_capacities, up_to_max, header_of_words, header_of, header_text}
use Rattle.ix_run.specs.declared.run.grammar.header.FixedCapacity.{FixedCapacity}
use Rattle.ix_run.specs.declared.run.grammar.header.FixedCapacity.TheVariants.{Zero, One, Three, Eight}
use Rattle.ix_run.specs.declared.run.devices.limits.TheConstants.{MAX_CAPACITY}
use Rattle.ix_run.specs.declared.run.grammar.header.Container.{Container}
use Rattle.ix_run.specs.declared.run.grammar.header.Container.TheVariants.{Queue, Vector, SlotTable, SlotMap, FlatMap, String}
use Rattle.ix_run.specs.declared.run.grammar.header.Storage.{Storage}
use Rattle.ix_run.specs.declared.run.grammar.header.Storage.TheVariants.{Fixed, Heap, Arena}
use Rattle.ix_run.specs.declared.run.grammar.header.Header.{Header}
use Rattle.ix_run.proofs.Numbers.{number_of_decimal}
use Rattle.ix_run.proofs.Spelling.{IsText, numbers_in-IsText}
use Rattle.ix_run.proofs.Words.{decimal-All, make_named-None}

cond-up_to_max : {C : Type 0} (make : ℕ → C) (n : ℕ) (small : Bool) → cond small (Some (make n)) None ≡ option_map make (cond small (Some n) None)
cond-up_to_max make n true = refl
cond-up_to_max make n false = refl

-- what a storage's name makes, from the number that was read
pub up_to_max_made : {C : Type 0} (make : ℕ → C) (numbers : Option (List ℕ)) → option_and_then (up_to_max make) numbers ≡ option_map make (option_and_then (up_to_max (λ n. n)) numbers)
up_to_max_made make None = refl
up_to_max_made make (Some []) = refl
up_to_max_made make (Some (n ∷ [])) = cond-up_to_max make n (nat_le n MAX_CAPACITY)
up_to_max_made make (Some (n ∷ m ∷ ns)) = refl

pub fixed_made : (numbers : Option (List ℕ)) → option_and_then takes_fixed_capacity numbers
    ≡ option_and_then (λ n. option_map Fixed (find (λ capacity. fixed_capacity capacity == n) fixed_capacities)) (option_and_then (takes_one (λ n. n)) numbers)
fixed_made None = refl
fixed_made (Some []) = refl
fixed_made (Some (n ∷ [])) = refl
fixed_made (Some (n ∷ m ∷ ns)) = refl

cond-find : {X : Type 0} (p : X → Bool) (x : X) (found : Bool) (others : Option X) → p x ≡ found → IfSome others (λ y. p y ≡ true) → IfSome (cond found (Some x) others) (λ y. p y ≡ true)
cond-find p x true others e h = e
cond-find p x false others e h = h

-- what is found passes the test
find-passes : {X : Type 0} (p : X → Bool) (xs : List X) → IfSome (find p xs) (λ x. p x ≡ true)
find-passes p [] = tt
find-passes p (x ∷ xs) = cond-find p x (p x) (find p xs) refl (find-passes p xs)

-- a storage, and the text of its name and its numbers
abbrev IsStorageText : List ℕ → List ℕ → Storage → Type 0
IsStorageText name numbers storage = IsStorage storage × (words_text name numbers ≡ storage_text storage)

fixed-found : (n : ℕ) (capacity : Option FixedCapacity) → IfSome capacity (λ c. (fixed_capacity c == n) ≡ true) → IfSome (option_map Fixed capacity) (IsStorageText (codes "fixed") (n ∷ []))
fixed-found n None h = tt
fixed-found n (Some c) h = (tt, ap (λ k. words_text (codes "fixed") (k ∷ [])) (sym (eqb-true (fixed_capacity c) n h)))

fixed-text : (numbers : List ℕ) → IfSome (takes_fixed_capacity numbers) (IsStorageText (codes "fixed") numbers)
fixed-text [] = tt
fixed-text (n ∷ []) = fixed-found n (find (λ c. fixed_capacity c == n) fixed_capacities) (find-passes (λ c. fixed_capacity c == n) fixed_capacities)
fixed-text (n ∷ m ∷ ns) = tt

cond-storage : (name : List ℕ) (make : ℕ → Storage) (n : ℕ) (small : Bool) → nat_le n MAX_CAPACITY ≡ small → ((k : ℕ) → k ≤ MAX_CAPACITY → IsStorageText name (k ∷ []) (make k))
    → IfSome (cond small (Some (make n)) None) (IsStorageText name (n ∷ []))
cond-storage name make n true e h = h n (grind (arith, common_steps))
cond-storage name make n false e h = tt

up_to_max-text : (name : List ℕ) (make : ℕ → Storage) (numbers : List ℕ) → ((k : ℕ) → k ≤ MAX_CAPACITY → IsStorageText name (k ∷ []) (make k)) → IfSome (up_to_max make numbers) (IsStorageText name numbers)
up_to_max-text name make [] h = tt
up_to_max-text name make (n ∷ []) h = cond-storage name make n (nat_le n MAX_CAPACITY) refl h
up_to_max-text name make (n ∷ m ∷ ns) h = tt

at_name : (name form numbers : List ℕ) (storage : Option Storage) → bytes_eq name form ≡ true → IfSome storage (IsStorageText form numbers) → IfSome storage (IsStorageText name numbers)
at_name name form numbers storage e h = rw ((bytes_eq-Decides name form).0 e) h

cond-make : (name numbers : List ℕ) (is_fixed is_heap is_arena : Bool) → bytes_eq name (codes "fixed") ≡ is_fixed → bytes_eq name (codes "heap") ≡ is_heap → bytes_eq name (codes "arena") ≡ is_arena
    → IfSome (option_and_then (λ m. option_and_then m (Some numbers)) (cond is_fixed (Some takes_fixed_capacity) (cond is_heap (Some (up_to_max Heap)) (cond is_arena (Some (up_to_max Arena)) None)))) (IsStorageText name numbers)
cond-make name numbers true b c d e f = at_name name (codes "fixed") numbers _ d (fixed-text numbers)
cond-make name numbers false true c d e f = at_name name (codes "heap") numbers _ e (up_to_max-text (codes "heap") Heap numbers (λ k h. (h, refl)))
cond-make name numbers false false true d e f = at_name name (codes "arena") numbers _ f (up_to_max-text (codes "arena") Arena numbers (λ k h. (h, refl)))
cond-make name numbers false false false d e f = tt

-- the words of a storage are its text
storage-words : (name : List ℕ) (words : List (List ℕ)) (numbers : Option (List ℕ)) → IfSome numbers (IsText name words)
    → IfSome (make_named storage_forms name numbers) (λ storage. IsStorage storage × (join_with_byte 32 (name ∷ words) ≡ storage_text storage))
storage-words name words None h = rw (make_named-None (lookup (bytes_eq name) storage_forms)) tt
storage-words name words (Some ns) h = rw h.0 (cond-make name ns _ _ _ refl refl refl)

-- a container whose name says all of it
abbrev IsPlain : Container → Type 0
IsPlain container = IsStart container × ((text : List ℕ) → with_start container text ≡ text)

module _ {X : Type 0} (p : X → Bool) (Is : X → Type 0) where
  abbrev AreAll : List X → Type 0
  AreAll [] = Unit {0}
  AreAll (x ∷ xs) = Is x × AreAll xs

  cond-found : (x : X) (found : Bool) (others : Option X) → p x ≡ found → Is x → IfSome others (λ y. (p y ≡ true) × Is y) → IfSome (cond found (Some x) others) (λ y. (p y ≡ true) × Is y)
  cond-found x true others e is h = (e, is)
  cond-found x false others e is h = h

  find-all : (xs : List X) → AreAll xs → IfSome (find p xs) (λ x. (p x ≡ true) × Is x)
  find-all [] are = tt
  find-all (x ∷ xs) are = cond-found x (p x) (find p xs) refl are.0 (find-all xs are.1)

named_container-name : (name : List ℕ) → IfSome (named_container name) (λ c. (name ≡ container_name c) × IsPlain c)
named_container-name name =
    IfSome_then (named_container name)
    (find-all (λ c. bytes_eq name (container_name c)) IsPlain containers
    ((tt, λ text. refl), ((tt, λ text. refl), ((tt, λ text. refl), ((tt, λ text. refl), ((tt, λ text. refl), ((tt, λ text. refl), tt)))))))
    (λ c e. ((bytes_eq-Decides name (container_name c)).0 e.0, e.1))

-- a container that has this name and whose text ends by these words, the first one after a space
abbrev IsStarted : List ℕ → List ℕ → List (List ℕ) → Container → Type 0
IsStarted name word words c = IsStart c × ((name ≡ container_name c) × ((text : List ℕ) → with_start c text ≡ text ++ (32 ∷ join_with_byte 32 (word ∷ words))))

cond-starting : (word : List ℕ) (words : List (List ℕ)) (n : ℕ) (fits : Bool) → fits_generation n ≡ fits → word ≡ codes "at" → join_with_byte 32 (word ∷ words) ≡ words_text word (n ∷ [])
    → IfSome (cond fits (Some (SlotMap (Some n))) None) (IsStarted (codes "slot") word words)
cond-starting word words n true e is text = ((grind (arith, common_steps)), (refl, λ front. ap (λ l. front ++ (32 ∷ l)) (sym (text ∙ ap (λ w. words_text w (n ∷ [])) is))))
cond-starting word words n false e is text = tt

starting-text : (word : List ℕ) (words : List (List ℕ)) (is_at : Bool) (numbers : Option (List ℕ)) → bytes_eq word (codes "at") ≡ is_at → IfSome numbers (IsText word words)
    → IfSome (cond is_at (option_and_then starting_at numbers) None) (IsStarted (codes "slot") word words)
starting-text word words false numbers e t = tt
starting-text word words true None e t = tt
starting-text word words true (Some []) e t = tt
starting-text word words true (Some (n ∷ [])) e t = cond-starting word words n (fits_generation n) refl ((bytes_eq-Decides word (codes "at")).0 e) t.0
starting-text word words true (Some (n ∷ m ∷ ns)) e t = tt

started-text : (container : Container) (word : List ℕ) (words : List (List ℕ)) → IfSome (container_with_start container (word ∷ words)) (IsStarted (container_name container) word words)
started-text (SlotMap start) word words = starting-text word words (bytes_eq word (codes "at")) (numbers_in words) refl (numbers_in-IsText word words)
started-text Queue word words = tt
started-text Vector word words = tt
started-text SlotTable word words = tt
started-text FlatMap word words = tt
started-text String word words = tt

-- the header is what the parts of a line say
abbrev IsHeaderText : List (List ℕ) → Header → Type 0
IsHeaderText parts header = IsStorage header.storage × (IsStart header.container × (join_with_byte 32 parts ≡ header_text header))

header-started : (name storage number word : List ℕ) (words : List (List ℕ)) (s : Storage) (container : Option Container) → IfSome container (IsStarted name word words)
    → IsStorage s → storage ++ (32 ∷ number) ≡ storage_text s
    → IfSome (option_map (λ c. record { container = c; storage = s }) container) (IsHeaderText (name ∷ storage ∷ number ∷ word ∷ words))
header-started name storage number word words s None is h t = tt
header-started name storage number word words s (Some c) is h t =
    let tail = 32 ∷ join_with_byte 32 (word ∷ words) in
    let front = sym (append_assoc storage (32 ∷ number) tail) ∙ ap (λ l. l ++ tail) t in
    let left = ap (λ l. name ++ (32 ∷ l)) front ∙ ap (λ l. l ++ (32 ∷ (storage_text s ++ tail))) is.1.0 in
    let right = is.1.1 (container_name c ++ (32 ∷ storage_text s)) ∙ append_assoc (container_name c) (32 ∷ storage_text s) tail in
    (h, (is.0, left ∙ sym right))

header-words : (name storage number : List ℕ) (words : List (List ℕ)) (c : Container) (s : Storage) → name ≡ container_name c → IsPlain c → IsStorage s → storage ++ (32 ∷ number) ≡ storage_text s
    → IfSome (option_map (λ c'. record { container = c'; storage = s }) (container_with_start c words)) (IsHeaderText (name ∷ storage ∷ number ∷ words))
header-words name storage number [] c s named plain h t =
    (h, (plain.0, ap (λ l. name ++ (32 ∷ l)) t ∙ ap (λ l. l ++ (32 ∷ storage_text s)) named ∙ sym (plain.1 (container_name c ++ (32 ∷ storage_text s)))))
header-words name storage number (word ∷ words) c s named plain h t =
    header-started name storage number word words s (container_with_start c (word ∷ words)) (rw named (started-text c word words)) h t

header-found : (name storage number : List ℕ) (words : List (List ℕ)) (container : Option Container) (made : Option Storage) → IfSome container (λ c. (name ≡ container_name c) × IsPlain c)
    → IfSome made (λ s. IsStorage s × (storage ++ (32 ∷ number) ≡ storage_text s))
    → IfSome (option_and_then (λ c. option_and_then (λ s. option_map (λ c'. record { container = c'; storage = s }) (container_with_start c words)) made) container) (IsHeaderText (name ∷ storage ∷ number ∷ words))
header-found name storage number words None made h t = tt
header-found name storage number words (Some c) None h t = tt
header-found name storage number words (Some c) (Some s) h t = header-words name storage number words c s h.0 h.1 t.0 t.1

header_of_words-text : (parts : List (List ℕ)) → IfSome (header_of_words parts) (IsHeaderText parts)
header_of_words-text [] = tt
header_of_words-text (name ∷ []) = tt
header_of_words-text (name ∷ storage ∷ []) = tt
header_of_words-text (name ∷ storage ∷ number ∷ words) =
    header-found name storage number words (named_container name) (make_named storage_forms storage (numbers_in (number ∷ [])))
    (named_container-name name) (storage-words storage (number ∷ []) (numbers_in (number ∷ [])) (numbers_in-IsText storage (number ∷ [])))

header_of-IsHeaderText : (line : List ℕ) → IfSome (header_of line) (λ header. IsStorage header.storage × (IsStart header.container × (line ≡ header_text header)))
header_of-IsHeaderText line =
    subst (λ text. IfSome (header_of line) (λ header. IsStorage header.storage × (IsStart header.container × (text ≡ header_text header)))) (join_with_byte-slice_split 32 line) (header_of_words-text (slice_split is_space line))

-- a line is the text of the header that it is read as
pub header_of_text : (line : List ℕ) → IfSome (header_of line) (λ header. IsStorage header.storage × IsStart header.container × (line ≡ header_text header))
header_of_text line = IfSome_then (header_of line) (header_of-IsHeaderText line) (λ header is. (is.0, is.1.0, is.1.1))

-- a number is one word
last-number : (n : ℕ) → n < 2 ^ 64 → slice_split is_space (decimal n ++ []) ≡ decimal n ∷ []
last-number n h = rw (append-nil (decimal n)) (slice_split_none is_space (decimal n) (decimal-All n h))

next-number : (n : ℕ) (rest : List ℕ) → n < 2 ^ 64 → slice_split is_space ((decimal n ++ []) ++ (32 ∷ rest)) ≡ decimal n ∷ slice_split is_space rest
next-number n rest h = rw (append-nil (decimal n)) (slice_split_at is_space (decimal n) 32 rest (decimal-All n h) refl)

fixed-small : (capacity : FixedCapacity) → fixed_capacity capacity < 2 ^ 64
fixed-small Zero = omega arith
fixed-small One = omega arith
fixed-small Three = omega arith
fixed-small Eight = omega arith

-- the name and the number of a storage
abbrev storage_name : Storage → List ℕ
storage_name (Fixed capacity) = codes "fixed"
storage_name (Heap n) = codes "heap"
storage_name (Arena n) = codes "arena"

storage-split : (storage : Storage) → IsStorage storage → slice_split is_space (storage_text storage) ≡ storage_name storage ∷ decimal (capacity_of storage) ∷ []
storage-split (Fixed capacity) h = ap (λ words. codes "fixed" ∷ words) (last-number (fixed_capacity capacity) (fixed-small capacity))
storage-split (Heap n) h = ap (λ words. codes "heap" ∷ words) (last-number n (omega (arith, h)))
storage-split (Arena n) h = ap (λ words. codes "arena" ∷ words) (last-number n (omega (arith, h)))

storage-split_then : (storage : Storage) (rest : List ℕ) → IsStorage storage → slice_split is_space (storage_text storage ++ (32 ∷ rest)) ≡ storage_name storage ∷ decimal (capacity_of storage) ∷ slice_split is_space rest
storage-split_then (Fixed capacity) rest h = ap (λ words. codes "fixed" ∷ words) (next-number (fixed_capacity capacity) rest (fixed-small capacity))
storage-split_then (Heap n) rest h = ap (λ words. codes "heap" ∷ words) (next-number n rest (omega (arith, h)))
storage-split_then (Arena n) rest h = ap (λ words. codes "arena" ∷ words) (next-number n rest (omega (arith, h)))

one-number : (n : ℕ) → n < 2 ^ 64 → numbers_in (decimal n ∷ []) ≡ Some (n ∷ [])
one-number n h = rw (number_of_decimal (decimal n) n h refl) refl

storage-made : (storage : Storage) → IsStorage storage → make_named storage_forms (storage_name storage) (numbers_in (decimal (capacity_of storage) ∷ [])) ≡ Some storage
storage-made (Fixed Zero) h = rw (one-number 0 (omega arith)) refl
storage-made (Fixed One) h = rw (one-number 1 (omega arith)) refl
storage-made (Fixed Three) h = rw (one-number 3 (omega arith)) refl
storage-made (Fixed Eight) h = rw (one-number 8 (omega arith)) refl
storage-made (Heap n) h = let small : nat_le n MAX_CAPACITY ≡ true = grind (arith, common_steps) in rw (one-number n (omega (arith, h)), small) refl
storage-made (Arena n) h = let small : nat_le n MAX_CAPACITY ≡ true = grind (arith, common_steps) in rw (one-number n (omega (arith, h)), small) refl

-- the header of a name, a storage, and the words after it
words-made : (container container' : Container) (name : List ℕ) (storage : Storage) (words : List (List ℕ)) → IsStorage storage → named_container name ≡ Some container → container_with_start container words ≡ Some container'
    → header_of_words (name ∷ storage_name storage ∷ decimal (capacity_of storage) ∷ words) ≡ Some (record { container = container'; storage = storage })
words-made container container' name storage words h named is =
    ap (option_and_then (λ c. option_and_then (λ s. option_map (λ c'. record { container = c'; storage = s }) (container_with_start c words)) (make_named storage_forms (storage_name storage) (numbers_in (decimal (capacity_of storage) ∷ []))))) named
    ∙ (ap (option_and_then (λ s. option_map (λ c'. record { container = c'; storage = s }) (container_with_start container words))) (storage-made storage h)
    ∙ ap (option_map (λ c'. record { container = c'; storage = storage })) is)

plain-read : (container : Container) (storage : Storage) → IsStorage storage → named_container (container_name container) ≡ Some container
    → slice_split is_space (container_name container ++ (32 ∷ storage_text storage)) ≡ container_name container ∷ slice_split is_space (storage_text storage)
    → header_of (container_name container ++ (32 ∷ storage_text storage)) ≡ Some (record { container = container; storage = storage })
plain-read container storage h named words =
    ap header_of_words (words ∙ ap (λ ws. container_name container ∷ ws) (storage-split storage h)) ∙ words-made container container (container_name container) storage [] h named refl

at-made : (n : ℕ) → n ≤ greatest_generation → container_with_start (SlotMap None) (codes "at" ∷ decimal n ∷ []) ≡ Some (SlotMap (Some n))
at-made n h = let fits : fits_generation n ≡ true = grind (arith, common_steps) in rw (one-number n (omega (arith, h)), fits) refl

started-read : (n : ℕ) (storage : Storage) → IsStorage storage → n ≤ greatest_generation
    → header_of ((codes "slot" ++ (32 ∷ storage_text storage)) ++ (32 ∷ words_text (codes "at") (n ∷ []))) ≡ Some (record { container = SlotMap (Some n); storage = storage })
started-read n storage h small =
    let at : slice_split is_space (words_text (codes "at") (n ∷ [])) ≡ codes "at" ∷ decimal n ∷ [] = ap (λ words. codes "at" ∷ words) (last-number n (omega (arith, small))) in
    let words = storage-split_then storage (words_text (codes "at") (n ∷ [])) h ∙ ap (λ ws. storage_name storage ∷ decimal (capacity_of storage) ∷ ws) at in
    ap header_of_words (ap (λ ws. codes "slot" ∷ ws) words) ∙ words-made (SlotMap None) (SlotMap (Some n)) (codes "slot") storage (codes "at" ∷ decimal n ∷ []) h refl (at-made n small)

header-read : (container : Container) (storage : Storage) → IsStorage storage → IsStart container
    → header_of (header_text (record { container = container; storage = storage })) ≡ Some (record { container = container; storage = storage })
header-read Queue storage h start = plain-read Queue storage h refl refl
header-read Vector storage h start = plain-read Vector storage h refl refl
header-read SlotTable storage h start = plain-read SlotTable storage h refl refl
header-read (SlotMap None) storage h start = plain-read (SlotMap None) storage h refl refl
header-read (SlotMap (Some n)) storage h start = started-read n storage h start
header-read FlatMap storage h start = plain-read FlatMap storage h refl refl
header-read String storage h start = plain-read String storage h refl refl

-- the text of a header is read as that header
pub header_of_header_text : (line : List ℕ) (header : Header) → IsStorage header.storage → IsStart header.container → line ≡ header_text header → header_of line ≡ Some header
header_of_header_text line header h start e = rw e (header-read header.container header.storage h start)
