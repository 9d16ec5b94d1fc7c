use Rattle.std.proofs.Common.{ℕ, List, [], ◌∷◌, ◌∙◌, ap, rules}
use Rattle.std.specs.List.{insert_slice}
use Rattle.ix_tables.specs.Bounded.{Bounded}
use Rattle.ix_semantic_string.proofs.Undoing.{insert_slice-remove}
use Rattle.ix_semantic_string.proofs.semantic_string.semantic.Semantic.remove.Goals as goal

pub returns-in-Err-clause-refused : goal.returns-in-Err-clause-refused
returns-in-Err-clause-refused g c =
    let undone = insert_slice-remove c.self.inside.text c.args.idx c.in-Some.byte (search rules) in
    let removed = ap (λ (b : Bounded ℕ). b.items) c.remove-removed.ensures.string in
    let inserted = ap (λ (b : Bounded ℕ). b.items) c.insert_bytes_unchecked.ensures in
    inserted ∙ ap (λ (t : List ℕ). insert_slice t c.args.idx (c.in-Some.byte ∷ [])) removed ∙ undone ∙ c.self.view_is

pub invariant_of-self-in-Err : goal.invariant_of-self-in-Err
invariant_of-self-in-Err g c =
    let undone = insert_slice-remove c.self.inside.text c.args.idx c.in-Some.byte (search rules) in
    let removed = ap (λ (b : Bounded ℕ). b.items) c.remove-removed.ensures.string in
    let inserted = ap (λ (b : Bounded ℕ). b.items) c.insert_bytes_unchecked.ensures in
    rw (inserted, removed, undone) c.self.invariant
