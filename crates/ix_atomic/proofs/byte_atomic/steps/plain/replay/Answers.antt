use Rattle.std.proofs.Common.{List, subst, sym}
use Rattle.ix_atomic.specs.declared.byte_atomic.steps.plain.Act.{Act}
use Rattle.ix_atomic.specs.ByteActs.{AreLegal}
use Rattle.ix_atomic.proofs.LegalActs.{filter_map-Some}
use Rattle.ix_atomic.proofs.byte_atomic.steps.plain.replay.Goals as goal

pub returns : goal.returns
returns c =
    let same = filter_map-Some (λ step. step.act) c.args.steps.now in (
      λ yes. subst (λ (acts : List Act). AreLegal c.args.first.now acts) same (c.acts_are_legal.ensures.0 yes),
      λ legal. c.acts_are_legal.ensures.1 (subst (λ (acts : List Act). AreLegal c.args.first.now acts) (sym same) legal),
    )
