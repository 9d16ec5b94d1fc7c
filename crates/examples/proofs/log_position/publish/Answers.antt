use Rattle.std.proofs.Common.{◌≡◌, ℕ, ◌++◌, ◌∷◌, [], List, Result, Ok, Err}
use Rattle.std.specs.Result.{IfErr}
use Rattle.std.proofs.lemmas.Result.{IfOk-weaker}
use Rattle.ix_atomic.specs.Writers.{Writes, Refuses}
use Rattle.ix_atomic.proofs.Written.{refused_written, written_more}
use Rattle.ix_atomic.specs.Written.{HasWritten}
use Rattle.examples.proofs.log_position.publish.Goals as goal

from_both : {X Y : Type 0} (result : Result X Y) (P Q R : Y → Type 0) → ((error : Y) → P error → Q error → R error) → IfErr result P → IfErr result Q → IfErr result R
from_both (Ok _) P Q R both first second = second
from_both (Err error) P Q R both first second = both error first second

pub returns-clause-published : goal.returns-clause-published
returns-clause-published c = let before = c.args.seat.now in let after = c.try_write.new.seat in
    IfOk-weaker c.try_write.result (λ _. Writes before after c.args.value)
    (λ _. (values : List ℕ) → HasWritten before values → HasWritten after (values ++ c.args.value ∷ []))
    (λ _ write values. written_more before after c.args.value values write) c.try_write.ensures.written

pub returns-clause-not_published : goal.returns-clause-not_published
returns-clause-not_published c = let before = c.args.seat.now in let after = c.try_write.new.seat in
    from_both c.try_write.result (Refuses before after) (λ _. after.places ≡ before.places)
    (λ _. (values : List ℕ) → HasWritten before values → HasWritten after values)
    (λ error refused same values. refused_written before after error values refused same) c.try_write.ensures.refused c.try_write.ensures.no_place
