-- Worked examples: the sample rules, and what a change of a name returns.
use Rattle.std.proofs.Common.{◌≡◌, ◌-◌, ◌≤◌, [], length, take, Some, refl, arith}
use Rattle.std.specs.Prelude.{codes, remove, slice_get, Ok, Err}
use Rattle.std.specs.List.{insert_slice}
use Rattle.std.proofs.lemmas.List.Elements.{All-nil, All-cons}
use Rattle.ix_string.specs.Text.{IsText, IsTextByte}
use Rattle.ix_semantic_string.specs.Rules.{IsAccepted}
use Rattle.ix_semantic_string.specs.SampleRules.{group_name_rules, without_trailing_slashes}
use Rattle.ix_semantic_string.specs.SemanticSteps.{SemanticResult, text_without_range}
use Rattle.ix_semantic_string.specs.declared.semantic_string.semantic_string_error.SemanticStringError.TheVariants.{InvalidContent, ExceedsMaximumLength}

IsText-a : IsText (codes "a")
IsText-a = All-cons (λ b. IsTextByte b) 97 [] (omega arith, omega arith) (All-nil (λ b. IsTextByte b))

IsText-a1 : IsText (codes "a1")
IsText-a1 = All-cons (λ b. IsTextByte b) 97 (codes "1") (omega arith, omega arith)
    (All-cons (λ b. IsTextByte b) 49 [] (omega arith, omega arith) (All-nil (λ b. IsTextByte b)))

-- `a` and `a1` are names of groups; `1a`, `-a`, `a_` and the empty text are none
IsAccepted-a : IsAccepted 31 group_name_rules (codes "a")
IsAccepted-a = record { fits = omega arith; text = IsText-a; content = refl; characters = refl }

IsAccepted-a1 : IsAccepted 31 group_name_rules (codes "a1")
IsAccepted-a1 = record { fits = omega arith; text = IsText-a1; content = refl; characters = refl }

IsAccepted-digit : IsAccepted 31 group_name_rules (codes "1a") → ⊥
IsAccepted-digit accepted = let wrong = accepted.content in absurd (cc)

IsAccepted-dash : IsAccepted 31 group_name_rules (codes "-a") → ⊥
IsAccepted-dash accepted = let wrong = accepted.content in absurd (cc)

IsAccepted-empty : IsAccepted 31 group_name_rules [] → ⊥
IsAccepted-empty accepted = let wrong = accepted.content in absurd (cc)

IsAccepted-underscore : IsAccepted 31 group_name_rules (codes "a_") → ⊥
IsAccepted-underscore accepted = let wrong = accepted.characters in absurd (cc)

-- and two bytes are none of at most one byte
IsAccepted-long : IsAccepted 1 group_name_rules (codes "a1") → ⊥
IsAccepted-long accepted = let fits : 2 ≤ 1 = accepted.fits in omega arith

-- slashes at the end mean nothing, but one alone stays
without_trailing_slashes-two : without_trailing_slashes (codes "/a//") ≡ codes "/a"
without_trailing_slashes-two = refl

without_trailing_slashes-all : without_trailing_slashes (codes "//") ≡ codes "/"
without_trailing_slashes-all = refl

without_trailing_slashes-empty : without_trailing_slashes [] ≡ []
without_trailing_slashes-empty = refl

without_trailing_slashes-none : without_trailing_slashes (codes "a/b") ≡ codes "a/b"
without_trailing_slashes-none = refl

-- removing the first byte of `a1` would leave `1`, and is refused
remove-first : remove (codes "a1") 0 ≡ codes "1"
remove-first = refl

SemanticResult-remove : SemanticResult 31 group_name_rules (remove (codes "a1") 0) (slice_get (codes "a1") 0) (Err InvalidContent)
SemanticResult-remove = (omega arith, λ accepted. let wrong = accepted.content in absurd (cc))

-- popping `1` leaves `a`
take-last : take (length (codes "a1") - 1) (codes "a1") ≡ codes "a"
take-last = refl

SemanticResult-pop : SemanticResult 31 group_name_rules (take (length (codes "a1") - 1) (codes "a1")) (slice_get (codes "a1") (length (codes "a1") - 1)) (Ok (Some 49))
SemanticResult-pop = (IsAccepted-a, refl)

-- an insertion is judged by the whole text: a dash is accepted at the end of `a`, and not at its start
SemanticResult-prepend : SemanticResult 31 group_name_rules (insert_slice (codes "a") 0 (codes "-")) (tt {0}) (Err InvalidContent)
SemanticResult-prepend = (omega arith, IsAccepted-dash)

-- a lack of room is refused before all else
SemanticResult-no_room : SemanticResult 1 group_name_rules (insert_slice (codes "a") 0 (codes "-")) (tt {0}) (Err ExceedsMaximumLength)
SemanticResult-no_room = omega arith

-- a range that is not within the text leaves the text
text_without_range-inside : text_without_range (codes "abcd") 1 2 ≡ codes "ad"
text_without_range-inside = refl

text_without_range-outside : text_without_range (codes "abcd") 3 2 ≡ codes "abcd"
text_without_range-outside = refl
