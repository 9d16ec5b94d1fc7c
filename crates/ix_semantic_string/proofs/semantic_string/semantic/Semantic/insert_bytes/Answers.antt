use Rattle.std.proofs.Common.{ℕ, length, arith, Err, ◌+◌, ◌≤◌, ◌≡◌, ◌∙◌, ap, sym, rules}
use Rattle.std.specs.List.{insert_slice, remove_range}
use Rattle.std.proofs.lemmas.Grind.{common_steps}
use Rattle.ix_tables.specs.Bounded.{Bounded}
use Rattle.ix_semantic_string.specs.ErrorTexts.{semantic_error_of}
use Rattle.ix_semantic_string.proofs.Judging.{SemanticResult-refused, length-insert_slice, text_insert-ok}
use Rattle.ix_semantic_string.proofs.Undoing.{remove_range-insert_slice}
use Rattle.ix_semantic_string.proofs.semantic_string.semantic.Semantic.insert_bytes.Goals as goal

pub returns-in_err-insert_bytes-clause-value : goal.returns-in_err-insert_bytes-clause-value
returns-in_err-insert_bytes-clause-value g c =
    let error = c.in_err-insert_bytes.field-0.0 in
    let within : c.args.idx ≤ length c.self.inside.text = rw c.self.view_is c.requires in
    let refused = sym c.insert_bytes.ensures.value ∙ c.in_err-insert_bytes.was in
    let said : c.from_residual.result ≡ Err (semantic_error_of error) = search rules in
    rw (said, sym c.self.view_is) (SemanticResult-refused g.row.CAPACITY g.R.Rules.rules c.self.inside.text c.args.idx c.args.bytes.now error within refused)

pub invariant_of-self-in-Err : goal.invariant_of-self-in-Err
invariant_of-self-in-Err g c =
    let text = c.self.inside.text in
    let bytes = c.args.bytes.now in
    let i = c.args.idx in
    let within : i ≤ length text = rw c.self.view_is c.requires in
    let inserted : c.insert_bytes.new.self ≡ insert_slice text i bytes = ap (λ (b : Bounded ℕ). b.items) (c.insert_bytes.ensures.string ∙ text_insert-ok record { items = text; capacity = g.row.CAPACITY } i bytes (tt {0}) (sym c.insert_bytes.ensures.value ∙ c.in_ok-insert_bytes.was)) in
    let room : i + length bytes ≤ length c.insert_bytes.new.self = rw inserted (let longer = length-insert_slice text i bytes within in grind (arith, common_steps)) in
    let removes = c.remove_range.ensures.value.1 room in
    let removed : c.remove_range.new.self ≡ remove_range c.insert_bytes.new.self i (i + length bytes) = ap (λ (b : Bounded ℕ). b.items) (rw removes at c.remove_range.ensures.string) in
    rw (removed, inserted, remove_range-insert_slice text i bytes within) c.self.invariant
