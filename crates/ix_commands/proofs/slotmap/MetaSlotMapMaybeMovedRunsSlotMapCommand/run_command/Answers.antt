use Rattle.std.proofs.Common.{◌≡◌, ◌==◌, ◌↔◌, ℕ, List, [], ◌∷◌, Bool, true, false, length, refl, ap, arith}
use Rattle.std.specs.Prelude.{IsTrue}
use Rattle.std.proofs.lemmas.Grind.{common_steps}
use Rattle.ix_commands.specs.declared.reply.Reply.TheVariants as reply
use Rattle.ix_commands.proofs.slotmap.MetaSlotMapMaybeMovedRunsSlotMapCommand.run_command.Goals as goal

full-free : (listed : List ℕ) (full : Bool) → IsTrue full ↔ (listed ≡ []) → full ≡ (length listed == 0)
full-free [] full h = h.1 refl
full-free (place ∷ listed) true h = let none = h.0 refl in absurd (cc)
full-free (place ∷ listed) false h = grind (arith, common_steps)

pub returns-in-Full-clause-value : goal.returns-in-Full-clause-value
returns-in-Full-clause-value g c = rw c.in-Full.is (ap reply.Bool (full-free c.args.self.now.slots.free c.is_full.result c.is_full.ensures.value))
