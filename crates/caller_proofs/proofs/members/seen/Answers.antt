use Rattle.ix_queue.proofs.Members.{number_is_item, item_is_found}
use Rattle.caller_proofs.proofs.members.seen.Goals as goal

pub returns : goal.returns
returns c = (number_is_item _ _ _ c.contains.ensures.value, item_is_found _ _ _ c.contains.ensures.value)
