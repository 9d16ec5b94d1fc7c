use Rattle.std.proofs.Common.{refl, ◌∙◌, arith}
use Rattle.ix_slotmap.proofs.Generations.{slot_map_value-new, slot_map_len-new, free-new}
use Rattle.ix_slotmap.proofs.Words.{HasWords-new, new_state}
use Rattle.ix_slotmap.proofs.slotmap.kinds.SlotMap+T+A.starting_at.Goals as goal

pub invariant_of-result : goal.invariant_of-result
invariant_of-result g c =
    let most = c.ranges.generation.fits in
    HasWords-new _ _ c.args.capacity c.args.capacity c.args.generation c.in_ok-slots.ensures.value refl (c.new-3.ensures ∙ c.in_ok-words.ensures.value) (omega (arith, most))

pub returns-clause-value : goal.returns-clause-value
returns-clause-value g c =
    let most = c.ranges.generation.fits in
    new_state _ _ c.args.capacity c.args.capacity c.args.generation c.in_ok-slots.ensures.value refl (c.new-3.ensures ∙ c.in_ok-words.ensures.value) (omega (arith, most))

pub returns-clause-empty : goal.returns-clause-empty
returns-clause-empty g c = slot_map_value-new _ c.args.capacity c.args.generation (returns-clause-value g c)

pub returns-clause-count : goal.returns-clause-count
returns-clause-count g c = slot_map_len-new _ c.args.capacity c.args.generation (returns-clause-value g c)

pub returns-clause-room : goal.returns-clause-room
returns-clause-room g c = free-new _ c.args.capacity c.args.generation (returns-clause-value g c)
