use Rattle.std.proofs.Common.{◌≡◌, ◌+◌, ◌-◌, ◌∙◌, length, sym, ap, arith}
use Rattle.std.proofs.Math.ListN.{get_or}
use Rattle.std.proofs.lemmas.List.{get_or-set_same, get_or-set_other}
use Rattle.ix_vector.proofs.Shifts.{is_last_first}
use Rattle.ix_vector.proofs.vector.insert.put_last_first.Goals as goal

pub returns-clause-items : goal.returns-clause-items
returns-clause-items g c =
    let xs = c.args.row.items in
    let ys = c.move_within.new.self.items in
    let zs = c.put.new.self.items in
    let x = c.take-last.result in
    let took = c.take-last.ensures in
    let moved = c.move_within.ensures in
    let put = c.put.ensures in
    let some = c.requires.1 in
    let len = c.len-end.ensures in
    let counted = c.args.row.ok.0 in
    let kept : c.move_within.new.self.len ≡ c.args.row.len = moved.places.count ∙ took.places.count in
    let sizes = c.move_within.new.self.ok.0 in
    let long : length zs ≡ length xs = sym c.put.new.self.ok.0 ∙ put.places.count ∙ kept ∙ counted in
    let first : get_or zs 0 x ≡ x = ap (λ items. get_or items 0 x) put.items ∙ get_or-set_same ys 0 x x (omega arith) in
    let end : length xs - 1 ≡ c.len-end.result - 1 = omega arith in
    let last : get_or xs (length xs - 1) x ≡ x = ap (λ i. get_or xs i x) end ∙ sym took.value in
    let items = is_last_first xs zs x (omega arith) long first last (λ k below.
    ap (λ items. get_or items (1 + k) x) put.items ∙ get_or-set_other ys 0 (1 + k) x x (omega arith)
    ∙ moved.moved k x (omega arith) ∙ ap (λ items. get_or items (0 + k) x) took.items ∙ ap (λ i. get_or xs i x) (omega arith)) in
    rw counted items
