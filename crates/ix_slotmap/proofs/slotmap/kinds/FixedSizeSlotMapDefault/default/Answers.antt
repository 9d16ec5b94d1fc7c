use Rattle.std.proofs.Common.{refl, ◌∙◌, arith}
use Rattle.ix_slotmap.proofs.Words.{HasWords-new, new_state}
use Rattle.ix_slotmap.proofs.slotmap.kinds.FixedSizeSlotMapDefault.default.Goals as goal

pub invariant_of-result : goal.invariant_of-result
invariant_of-result g c =
    HasWords-new _ _ g.row.CAPACITY g.row.CAPACITY 0 c.default.ensures refl (c.new-2.ensures ∙ c.new.ensures) (omega arith)

pub returns : goal.returns
returns g c =
    new_state _ _ g.row.CAPACITY g.row.CAPACITY 0 c.default.ensures refl (c.new-2.ensures ∙ c.new.ensures) (omega arith)
