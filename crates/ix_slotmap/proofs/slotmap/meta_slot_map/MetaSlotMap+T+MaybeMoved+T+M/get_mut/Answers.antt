use Rattle.std.proofs.Common.{refl, sym}
use Rattle.std.proofs.lemmas.Bool.{iff_false}
use Rattle.ix_tables.proofs.Places.{none_of_not_some}
use Rattle.ix_slotmap.proofs.slotmap.meta_slot_map.MetaSlotMap+T+MaybeMoved+T+M.get_mut.Goals as goal

pub returns-else-contains : goal.returns-else-contains
returns-else-contains g c = (
  refl,
  record {
    writes_back = tt;
    value = sym (none_of_not_some _ (iff_false c.contains.ensures.value c.if-contains.false));
    holds = λ written held. absurd (iff_false c.contains.ensures.value c.if-contains.false held);
    kept = λ written other held. absurd (iff_false c.contains.ensures.value c.if-contains.false held);
    dead = λ written other held. absurd (iff_false c.contains.ensures.value c.if-contains.false held);
    not_held = λ dead. refl;
    known = c.contains.ensures.known;
  },
)
