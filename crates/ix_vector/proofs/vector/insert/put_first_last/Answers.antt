use Rattle.std.proofs.Common.{◌≡◌, ◌+◌, ◌-◌, ◌∙◌, length, sym, ap, arith}
use Rattle.std.proofs.Math.ListN.{get_or}
use Rattle.std.proofs.lemmas.List.{get_or-set_same, get_or-set_other}
use Rattle.ix_vector.proofs.Shifts.{is_first_last}
use Rattle.ix_vector.proofs.vector.insert.put_first_last.Goals as goal

pub returns-clause-items : goal.returns-clause-items
returns-clause-items g c =
    let xs = c.args.row.items in
    let ys = c.move_within.new.self.items in
    let zs = c.put.new.self.items in
    let x = c.take-first.result in
    let took = c.take-first.ensures in
    let moved = c.move_within.ensures in
    let put = c.put.ensures in
    let some = c.requires.1 in
    let len = c.len-end.ensures in
    let counted = c.args.row.ok.0 in
    let kept : c.move_within.new.self.len ≡ c.args.row.len = moved.places.count ∙ took.places.count in
    let sizes = c.move_within.new.self.ok.0 in
    let long : length zs ≡ length xs = sym c.put.new.self.ok.0 ∙ put.places.count ∙ kept ∙ counted in
    let end : length xs - 1 ≡ c.len-end.result - 1 = omega arith in
    let last : get_or zs (length xs - 1) x ≡ x =
    ap (λ i. get_or zs i x) end ∙ ap (λ items. get_or items (c.len-end.result - 1) x) put.items ∙ get_or-set_same ys (c.len-end.result - 1) x x (omega arith) in
    is_first_last xs zs x (omega arith) long last (sym took.value) (λ k below.
    ap (λ items. get_or items k x) put.items ∙ get_or-set_other ys (c.len-end.result - 1) k x x (omega arith) ∙ ap (λ i. get_or ys i x) (omega arith)
    ∙ moved.moved k x (omega arith) ∙ ap (λ items. get_or items (1 + k) x) took.items)
