-- Tables of the commands by name, as forms.
use Rattle.std.proofs.Common.{ℕ, ◌≡◌, List, [], ◌∷◌, ◌++◌, Option, Some, None, Bool, true, false, bytes_eq, map, cond, refl, sym, ap, ◌∙◌}
use Rattle.std.specs.List.{slice_split, list_all}
use Rattle.std.specs.Option.{option_and_then, option_map}
use Rattle.std.specs.Map.{lookup}
use Rattle.std.proofs.lemmas.Option.{none-some}
use Rattle.std.proofs.lemmas.Map.Made.{lookup-map_values}
use Rattle.ix_slotmap.specs.Generations.{SlotKey}
use Rattle.ix_run.specs.Words.{Form, KeyForm, is_space, numbers_in, line_words, fits_byte, make_named, command_of, key_and_numbers, name_key_numbers, make_with_key, key_command_of}
use Rattle.ix_run.specs.inner.NameTables.{first_word, IsNamed, numbers_taken, items_taken, bytes_taken, forms_by}
use Rattle.ix_run.specs.declared.run.grammar.name_table.Takes.{Takes}
use Rattle.ix_run.specs.declared.run.grammar.name_table.Takes.TheVariants.{Nothing, Number, TwoNumbers, Numbers, Byte, NumberAndByte, Bytes, NumberAndBytes}
use Rattle.ix_run.proofs.Words.{command_of_split}

module _ {A C : Type 0} where
  cond-map : (f : A → C) (x : A) (fits : Bool) → cond fits (Some (f x)) None ≡ option_map f (cond fits (Some x) None)
  cond-map f x true = refl
  cond-map f x false = refl

  none-map : (f : A → C) (numbers : Option (List ℕ)) → option_and_then {U = C} (λ ns. None) numbers ≡ option_map f (option_and_then {U = A} (λ ns. None) numbers)
  none-map f None = refl
  none-map f (Some ns) = refl

module _ {C : Type 0} where
  -- what numbers make, from the numbers that were read
  pub taken_made : (takes : Takes) (make : ℕ → ℕ → C) (numbers : Option (List ℕ))
      → option_and_then (numbers_taken takes make) numbers ≡ option_map (λ p. make p.0 p.1) (option_and_then {U = ℕ × ℕ} (numbers_taken takes (λ n m. (n, m))) numbers)
  taken_made Nothing make None = refl
  taken_made Nothing make (Some []) = refl
  taken_made Nothing make (Some (n ∷ ns)) = refl
  taken_made Number make None = refl
  taken_made Number make (Some []) = refl
  taken_made Number make (Some (n ∷ [])) = refl
  taken_made Number make (Some (n ∷ m ∷ ns)) = refl
  taken_made TwoNumbers make None = refl
  taken_made TwoNumbers make (Some []) = refl
  taken_made TwoNumbers make (Some (n ∷ [])) = refl
  taken_made TwoNumbers make (Some (n ∷ m ∷ [])) = refl
  taken_made TwoNumbers make (Some (n ∷ m ∷ k ∷ ns)) = refl
  taken_made other make numbers = none-map {A = ℕ × ℕ} (λ p. make p.0 p.1) numbers

module _ {V : Type 0} where
  cond-lookup : (t : Bool) (value : V) (found more : Option V) (v : V) → (found ≡ Some v → more ≡ Some v) → cond t (Some value) found ≡ Some v → cond t (Some value) more ≡ Some v
  cond-lookup true value found more v h e = e
  cond-lookup false value found more v h e = h e

  lookup-before : (is : List ℕ → Bool) (xs ys : List (List ℕ × V)) (v : V) → lookup is xs ≡ Some v → lookup is (xs ++ ys) ≡ Some v
  lookup-before is [] ys v e = absurd (none-some v e)
  lookup-before is (x ∷ xs) ys v e = cond-lookup (is x.0) x.1 (lookup is xs) (lookup is (xs ++ ys)) v (lookup-before is xs ys v) e

  -- a name of the first table is one of both
  pub named_before : (xs ys : List (List ℕ × V)) (line : List ℕ) (value : V) (rest : Option (List ℕ)) → IsNamed xs line value rest → IsNamed (xs ++ ys) line value rest
  named_before xs ys line value rest n = record { found = lookup-before (bytes_eq (first_word line)) xs ys value n.found; words = n.words; len = n.len }

module _ {V : Type 0} where
  -- a value, and the numbers read for it
  abbrev pub value_and_numbers : Option (List ℕ) → Option (Takes × V) → Option (V × (ℕ × ℕ))
  value_and_numbers numbers value = option_and_then (λ v. option_map (λ p. (v.1, p)) (option_and_then {U = ℕ × ℕ} (numbers_taken v.0 (λ n m. (n, m))) numbers)) value

module _ {V C : Type 0} (with : V → ℕ → ℕ → C) where
  -- a value, completed by its numbers
  abbrev pub completed : V × (ℕ × ℕ) → C
  completed r = with r.0 r.1.0 r.1.1

  pair-made : (v : V) (pair : Option (ℕ × ℕ)) → option_map (λ p. with v p.0 p.1) pair ≡ option_map completed (option_map {U = V × (ℕ × ℕ)} (λ p. (v, p)) pair)
  pair-made v None = refl
  pair-made v (Some p) = refl

  value-made : (numbers : Option (List ℕ)) (value : Option (Takes × V))
      → option_and_then (λ make. option_and_then make numbers) (option_map (λ v. numbers_taken v.0 (with v.1)) value) ≡ option_map completed (value_and_numbers numbers value)
  value-made numbers None = refl
  value-made numbers (Some v) = taken_made v.0 (with v.1) numbers ∙ pair-made v.1 (option_and_then {U = ℕ × ℕ} (numbers_taken v.0 (λ n m. (n, m))) numbers)

  -- what a table makes of a name and numbers
  pub named_by_table : (table : List (List ℕ × (Takes × V))) (name : List ℕ) (numbers : Option (List ℕ))
      → make_named (forms_by with table) name numbers ≡ option_map completed (value_and_numbers numbers (lookup (bytes_eq name) table))
  named_by_table table name numbers =
      ap (option_and_then (λ make. option_and_then make numbers)) (lookup-map_values (λ v. numbers_taken v.0 (with v.1)) (bytes_eq name) table)
      ∙ value-made numbers (lookup (bytes_eq name) table)

module _ {V : Type 0} where
  same-pair : (found : Option (V × (ℕ × ℕ))) → option_map (completed (λ v n m. (v, (n, m)))) found ≡ found
  same-pair None = refl
  same-pair (Some r) = refl

  -- the value and the numbers of a line that was split into its first word and the others
  pub line_by_table : (table : List (List ℕ × (Takes × V))) (line name : List ℕ) (words : List (List ℕ)) → slice_split is_space line ≡ name ∷ words
      → lookup (bytes_eq []) table ≡ None
      → command_of (forms_by (λ v n m. (v, (n, m))) table) line ≡ value_and_numbers (numbers_in words) (lookup (bytes_eq name) table)
  line_by_table table line name words e none =
      let with : V → ℕ → ℕ → V × (ℕ × ℕ) = λ v n m. (v, (n, m)) in
      let unnamed : lookup (bytes_eq []) (forms_by with table) ≡ None =
      lookup-map_values (λ v. numbers_taken v.0 (with v.1)) (bytes_eq []) table ∙ ap (option_map (λ v. numbers_taken v.0 (with v.1))) none in
      command_of_split (forms_by with table) line name words e unnamed
      ∙ (named_by_table with table name (numbers_in words) ∙ same-pair (value_and_numbers (numbers_in words) (lookup (bytes_eq name) table)))

module _ {V C : Type 0} (with : V → ℕ → ℕ → C) where
  words-made : (table : List (List ℕ × (Takes × V))) (words : Option (List ℕ × List ℕ))
      → option_and_then (λ w. make_named (forms_by with table) w.0 (Some w.1)) words
      ≡ option_map (completed with) (option_and_then (λ w. make_named (forms_by (λ v n m. (v, (n, m))) table) w.0 (Some w.1)) words)
  words-made table None = refl
  words-made table (Some w) =
      let found = value_and_numbers (Some w.1) (lookup (bytes_eq w.0) table) in
      named_by_table with table w.0 (Some w.1) ∙ ap (option_map (completed with)) (sym (named_by_table (λ v n m. (v, (n, m))) table w.0 (Some w.1) ∙ same-pair found))

  -- the command of a line, completed by its numbers
  pub command_completed : (table : List (List ℕ × (Takes × V))) (line : List ℕ)
      → command_of (forms_by with table) line ≡ option_map (completed with) (command_of (forms_by (λ v n m. (v, (n, m))) table) line)
  command_completed table line = words-made table (line_words line)

module _ {C : Type 0} where
  -- what a list makes, from the numbers and the list that were read
  abbrev pub listed : (ℕ → ℕ → List ℕ → C) → ℕ × (ℕ × List ℕ) → C
  listed make r = make r.0 r.1.0 r.1.1

  pair-listed : (make : ℕ → ℕ → List ℕ → C) (pair : Option (ℕ × ℕ)) → option_map (λ p. make p.0 p.1 []) pair ≡ option_map (listed make) (option_map {U = ℕ × (ℕ × List ℕ)} (λ p. (p.0, (p.1, []))) pair)
  pair-listed make None = refl
  pair-listed make (Some p) = refl

  no-list-made : (takes : Takes) (make : ℕ → ℕ → List ℕ → C) (numbers : Option (List ℕ))
      → option_and_then (numbers_taken takes (λ n m. make n m [])) numbers ≡ option_map (listed make) (option_and_then (numbers_taken takes (λ n m. (n, (m, [])))) numbers)
  no-list-made takes make numbers =
      taken_made takes (λ n m. make n m []) numbers ∙ pair-listed make (option_and_then {U = ℕ × ℕ} (numbers_taken takes (λ n m. (n, m))) numbers)
      ∙ ap (option_map (listed make)) (sym (taken_made {C = ℕ × (ℕ × List ℕ)} takes (λ n m. (n, (m, []))) numbers))

  pub items_made : (takes : Takes) (make : ℕ → ℕ → List ℕ → C) (numbers : Option (List ℕ))
      → option_and_then (items_taken takes make) numbers ≡ option_map (listed make) (option_and_then (items_taken takes (λ n m items. (n, (m, items)))) numbers)
  items_made Numbers make None = refl
  items_made Numbers make (Some ns) = refl
  items_made other make numbers = no-list-made other make numbers

  -- the same, beside a byte
  abbrev pub spelled : (ℕ → ℕ → ℕ → List ℕ → C) → ℕ × (ℕ × (ℕ × List ℕ)) → C
  spelled make r = make r.0 r.1.0 r.1.1.0 r.1.1.1

  pair-spelled : (make : ℕ → ℕ → ℕ → List ℕ → C) (pair : Option (ℕ × ℕ)) → option_map (λ p. make p.0 p.1 0 []) pair ≡ option_map (spelled make) (option_map {U = ℕ × (ℕ × (ℕ × List ℕ))} (λ p. (p.0, (p.1, (0, [])))) pair)
  pair-spelled make None = refl
  pair-spelled make (Some p) = refl

  no-byte-made : (takes : Takes) (make : ℕ → ℕ → ℕ → List ℕ → C) (numbers : Option (List ℕ))
      → option_and_then (numbers_taken takes (λ n m. make n m 0 [])) numbers ≡ option_map (spelled make) (option_and_then (numbers_taken takes (λ n m. (n, (m, (0, []))))) numbers)
  no-byte-made takes make numbers =
      taken_made takes (λ n m. make n m 0 []) numbers ∙ pair-spelled make (option_and_then {U = ℕ × ℕ} (numbers_taken takes (λ n m. (n, m))) numbers)
      ∙ ap (option_map (spelled make)) (sym (taken_made {C = ℕ × (ℕ × (ℕ × List ℕ))} takes (λ n m. (n, (m, (0, [])))) numbers))

  pub bytes_made : (takes : Takes) (make : ℕ → ℕ → ℕ → List ℕ → C) (numbers : Option (List ℕ))
      → option_and_then (bytes_taken takes make) numbers ≡ option_map (spelled make) (option_and_then (bytes_taken takes (λ n m byte bytes. (n, (m, (byte, bytes))))) numbers)
  bytes_made Byte make None = refl
  bytes_made Byte make (Some []) = refl
  bytes_made Byte make (Some (b ∷ [])) = cond-map {A = ℕ × (ℕ × (ℕ × List ℕ))} (spelled make) (0, (0, (b, []))) (fits_byte b)
  bytes_made Byte make (Some (b ∷ m ∷ ns)) = refl
  bytes_made NumberAndByte make None = refl
  bytes_made NumberAndByte make (Some []) = refl
  bytes_made NumberAndByte make (Some (n ∷ [])) = refl
  bytes_made NumberAndByte make (Some (n ∷ b ∷ [])) = cond-map {A = ℕ × (ℕ × (ℕ × List ℕ))} (spelled make) (n, (0, (b, []))) (fits_byte b)
  bytes_made NumberAndByte make (Some (n ∷ b ∷ k ∷ ns)) = refl
  bytes_made Bytes make None = refl
  bytes_made Bytes make (Some bs) = cond-map {A = ℕ × (ℕ × (ℕ × List ℕ))} (spelled make) (0, (0, (0, bs))) (list_all fits_byte bs)
  bytes_made NumberAndBytes make None = refl
  bytes_made NumberAndBytes make (Some []) = refl
  bytes_made NumberAndBytes make (Some (n ∷ bs)) = cond-map {A = ℕ × (ℕ × (ℕ × List ℕ))} (spelled make) (n, (0, (0, bs))) (list_all fits_byte bs)
  bytes_made other make numbers = no-byte-made other make numbers

module _ {V C : Type 0} (make : V → List ℕ → Option C) where
  -- the forms whose commands are made of what stands beside the names
  abbrev pub forms_of : List (List ℕ × V) → List (Form C)
  forms_of table = map (λ row. (row.0, make row.1)) table

  -- what is made of the value that was found
  abbrev pub made_of : Option (List ℕ) → Option V → Option C
  made_of numbers value = option_and_then (λ v. option_and_then (make v) numbers) value

  value-of : (numbers : Option (List ℕ)) (value : Option V) → option_and_then (λ m. option_and_then m numbers) (option_map make value) ≡ made_of numbers value
  value-of numbers None = refl
  value-of numbers (Some v) = refl

  -- the command of a line that was split into its first word and the others
  pub line_of_forms : (table : List (List ℕ × V)) (line name : List ℕ) (words : List (List ℕ)) → slice_split is_space line ≡ name ∷ words → lookup (bytes_eq []) table ≡ None
      → command_of (forms_of table) line ≡ made_of (numbers_in words) (lookup (bytes_eq name) table)
  line_of_forms table line name words e none =
      command_of_split (forms_of table) line name words e (lookup-map_values make (bytes_eq []) table ∙ ap (option_map make) none)
      ∙ (ap (option_and_then (λ m. option_and_then m (numbers_in words))) (lookup-map_values make (bytes_eq name) table) ∙ value-of (numbers_in words) (lookup (bytes_eq name) table))

module _ {V C : Type 0} (make : V → SlotKey → List ℕ → Option C) where
  -- the forms whose commands are made of what stands beside the names, and of a key
  abbrev pub key_forms_of : List (List ℕ × V) → List (KeyForm C)
  key_forms_of table = map (λ row. (row.0, make row.1)) table

  -- what is made of the value that was found
  abbrev pub key_made : Option (SlotKey × List ℕ) → Option V → Option C
  key_made taken value = option_and_then (λ v. option_and_then (λ t. make v t.0 t.1) taken) value

  pub key_made-None : (value : Option V) → None ≡ key_made None value
  key_made-None None = refl
  key_made-None (Some v) = refl

  value-key : (taken : SlotKey × List ℕ) (value : Option V) → option_and_then (λ m. option_and_then (λ t. m t.0 t.1) (Some taken)) (option_map make value) ≡ key_made (Some taken) value
  value-key taken None = refl
  value-key taken (Some v) = refl

  key_words-made : (table : List (List ℕ × V)) (name : List ℕ) (words : List (List ℕ)) (taken : Option (SlotKey × List ℕ)) → lookup (bytes_eq []) table ≡ None → key_and_numbers words ≡ taken
      → option_and_then (λ w. make_with_key (key_forms_of table) w.0 (Some w.1)) (name_key_numbers (name ∷ words)) ≡ key_made taken (lookup (bytes_eq name) table)
  key_words-made table [] words taken none e = rw none refl
  key_words-made table (b ∷ name) words None none e = rw e (key_made-None (lookup (bytes_eq (b ∷ name)) table))
  key_words-made table (b ∷ name) words (Some taken) none e =
      rw e (ap (option_and_then (λ m. option_and_then (λ t. m t.0 t.1) (Some taken))) (lookup-map_values make (bytes_eq (b ∷ name)) table) ∙ value-key taken (lookup (bytes_eq (b ∷ name)) table))

  -- the command of a line that was split into its first word and the others
  pub key_line : (table : List (List ℕ × V)) (line name : List ℕ) (words : List (List ℕ)) → slice_split is_space line ≡ name ∷ words → lookup (bytes_eq []) table ≡ None
      → key_command_of (key_forms_of table) line ≡ key_made (key_and_numbers words) (lookup (bytes_eq name) table)
  key_line table line name words e none = rw e (key_words-made table name words (key_and_numbers words) none refl)
