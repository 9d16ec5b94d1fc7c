use Rattle.std.proofs.Common.{ℕ, ◌≡◌, List, ◌∷◌, Option, Some, None, refl, sym, ap, ◌∙◌, option_map, option_copied}
use Rattle.std.specs.List.{slice_split}
use Rattle.std.specs.Option.{option_and_then}
use Rattle.std.specs.Prelude.{bytes_eq}
use Rattle.std.specs.Map.{lookup}
use Rattle.ix_slotmap.specs.Generations.{SlotKey}
use Rattle.ix_commands.specs.declared.command.SlotMapCommand.{SlotMapCommand}
use Rattle.ix_run.specs.Words.{is_space, numbers_in, key_of, key_and_numbers, key_command_of}
use Rattle.ix_run.specs.Forms.{slot_key_forms}
use Rattle.ix_run.specs.inner.NameTables.{constant_rows, first_word, numbers_taken, slot_key_named}
use Rattle.ix_run.specs.inner.LineRest.{words_after}
use Rattle.ix_run.specs.declared.run.grammar.name_table.Takes.{Takes}
use Rattle.ix_run.specs.declared.run.grammar.readers.slotmap.KeyName.{KeyName}
use Rattle.ix_run.specs.declared.run.grammar.readers.slotmap.TheConstants.{KEY_NAMES}
use Rattle.ix_run.proofs.Words.{other_words, first_word_split}
use Rattle.ix_run.proofs.NameTables.{taken_made, key_made, key_line}
use Rattle.ix_run.proofs.run.grammar.readers.slotmap.read_key_command.Goals as goal

abbrev make : Takes × KeyName → SlotKey → List ℕ → Option (SlotMapCommand ℕ)
make v key = numbers_taken v.0 (λ n m. slot_key_named v.1 key n)

-- what is made of a key, and of the numbers that were read after it
key-taken : (takes : Takes) (name : KeyName) (key : SlotKey) (numbers : Option (List ℕ))
    → key_made make (option_map (λ ns. (key, ns)) numbers) (Some (takes, name)) ≡ option_map (λ p. slot_key_named name key p.0) (option_and_then {U = ℕ × ℕ} (numbers_taken takes (λ n m. (n, m))) numbers)
key-taken takes name key None = refl
key-taken takes name key (Some ns) = taken_made takes (λ n m. slot_key_named name key n) (Some ns)

key-first : (rest : Option (List ℕ)) (bytes word : List ℕ) (words : List (List ℕ)) (key : SlotKey) → rest ≡ Some bytes → slice_split is_space bytes ≡ word ∷ words → key_of word ≡ Some key
    → key_and_numbers (words_after rest) ≡ option_map (λ ns. (key, ns)) (numbers_in words)
key-first rest bytes word words key e split is = rw (e, split, is) refl

-- the command of a line whose name and key were read
read-key : (line name : List ℕ) (rest : Option (List ℕ)) (bytes word : List ℕ) (words : List (List ℕ)) (takes : Takes) (form : KeyName) (key : SlotKey)
    → slice_split is_space line ≡ name ∷ words_after rest → Some (takes, form) ≡ lookup (bytes_eq name) (constant_rows KEY_NAMES) → rest ≡ Some bytes → slice_split is_space bytes ≡ word ∷ words → Some key ≡ key_of word
    → key_command_of slot_key_forms line ≡ option_map (λ p. slot_key_named form key p.0) (option_and_then {U = ℕ × ℕ} (numbers_taken takes (λ n m. (n, m))) (numbers_in words))
read-key line name rest bytes word words takes form key first found e split is =
    key_line make (constant_rows KEY_NAMES) line name (words_after rest) first refl
    ∙ (ap (key_made make (key_and_numbers (words_after rest))) (sym found)
    ∙ (ap (λ taken. key_made make taken (Some (takes, form))) (key-first rest bytes word words key e split (sym is)) ∙ key-taken takes form key (numbers_in words)))

pub returns-in_err-takes : goal.returns-in_err-takes
returns-in_err-takes c =
    let line = c.args.line.now in
    c.from_residual.ensures
    ∙ (ap (key_made make (key_and_numbers (other_words line))) (sym c.in_err-takes.ensures)
    ∙ sym (key_line make (constant_rows KEY_NAMES) line (first_word line) (other_words line) (first_word_split line) refl))

pub returns-in_err-value : goal.returns-in_err-value
returns-in_err-value c =
    let words = words_after (option_copied c.split_word.result.1) in
    let line = read-key c.args.line.now (first_word c.args.line.now) (option_copied c.in_ok-takes.rest) c.in_ok-rest.field-0.now c.split_word.result.0.now words c.in_ok-takes.takes c.in_ok-takes.name c.in_ok-key.key
    c.in_ok-takes.ensures.words (sym c.in_ok-takes.ensures.found) (ap option_copied c.in_ok-rest.was) c.split_word.ensures.words c.in_ok-key.ensures in
    c.from_residual-in_err-value.ensures ∙ (ap (option_map (λ (p : ℕ × ℕ). slot_key_named c.in_ok-takes.name c.in_ok-key.key p.0)) c.in_err-value.ensures ∙ sym line)

pub returns : goal.returns
returns c =
    let words = words_after (option_copied c.split_word.result.1) in
    let line = read-key c.args.line.now (first_word c.args.line.now) (option_copied c.in_ok-takes.rest) c.in_ok-rest.field-0.now c.split_word.result.0.now words c.in_ok-takes.takes c.in_ok-takes.name c.in_ok-key.key
    c.in_ok-takes.ensures.words (sym c.in_ok-takes.ensures.found) (ap option_copied c.in_ok-rest.was) c.split_word.ensures.words c.in_ok-key.ensures in
    ap Some c.key_named.ensures ∙ (ap (option_map (λ (p : ℕ × ℕ). slot_key_named c.in_ok-takes.name c.in_ok-key.key p.0)) c.in_ok-value.ensures ∙ sym line)
