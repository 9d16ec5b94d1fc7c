use Rattle.std.proofs.Common.{◌≡◌, [], ◌∷◌, ◌++◌, refl, sym, ap, ◌∙◌, subst, le_refl}
use Rattle.std.specs.Prelude.{IfOk}
use Rattle.ix_atomic.specs.Shares.{halved, IsWhole}
use Rattle.examples.proofs.shared_range.set_and_read.Goals as goal

-- two halves of the whole right
pub returns-clause-share : goal.returns-clause-share
returns-clause-share g c =
    let threads = c.set_beside_reads-latest in
    let one : threads.new.one.share ≡ 1 ∷ [] = threads.ensures.share.0 ∙ ap (λ seat. seat.share) c.reader.ensures.seat ∙ ap (λ seat. seat.share) c.writer.ensures.seat ∙ ap halved c.requires.share in
    let half = subst (λ made. IfOk made (λ writer. writer.share ≡ halved c.args.seat.now.share)) c.unwrap-other.ensures c.writer.ensures.share in
    let other : threads.new.other.share ≡ 1 ∷ [] = threads.ensures.share.1 ∙ half ∙ ap halved c.requires.share in
    let both = c.merge_reader-2.ensures.share ∙ c.merge_reader.ensures.share ∙ c.take_back.ensures.share ∙ (λ i. one i ++ other i) in
    subst IsWhole (sym both) (1, (le_refl 1, (le_refl 1, tt)), refl)

pub returns-clause-all : goal.returns-clause-all
returns-clause-all g c = c.merge_reader-2.ensures.all (returns-clause-share g c)
