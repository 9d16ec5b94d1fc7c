use Rattle.std.proofs.Common.{refl}
use Rattle.ix_atomic.proofs.Written.{refused_set, set_more}
use Rattle.examples.proofs.Limits.{GrewTo-push}
use Rattle.examples.proofs.rising_limit.raise_limit.Goals as goal

pub returns-in-Ok-clause-raised : goal.returns-in-Ok-clause-raised
returns-in-Ok-clause-raised c _ limits set grew =
    (set_more c.args.writer.now c.try_write.new.seat c.args.value limits c.in-Ok.ensures.written set, GrewTo-push limits c.args.last.now c.args.value grew c.if-value-last.false)

pub returns-in-Err-clause-not_raised : goal.returns-in-Err-clause-not_raised
returns-in-Err-clause-not_raised c _ = (refl, λ limits. refused_set c.args.writer.now c.try_write.new.seat c.in-Err.field-0 limits c.in-Err.ensures.refused c.in-Err.ensures.no_place)
