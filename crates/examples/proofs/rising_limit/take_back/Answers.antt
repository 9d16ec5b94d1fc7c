use Rattle.std.proofs.Common.{◌≡◌, ℕ, ◌/◌, List, true, sym, ap, ◌∙◌, subst, eqb-true}
use Rattle.ix_atomic.specs.History.{Begins}
use Rattle.ix_atomic.specs.Written.{HasSet}
use Rattle.ix_atomic.proofs.Written.{wrote_all, never_lower}
use Rattle.examples.proofs.rising_limit.take_back.Goals.{After-drop-newest-inside, then-version-eq0, else-version-eq0}
use Rattle.examples.proofs.rising_limit.take_back.Goals as goal

whole : (c : After-drop-newest-inside) → c.if-version-eq0.result ≡ true → (limits : List ℕ) → HasSet c.args.writer.now limits → c.merge_reader.new.seat.known ≡ limits
whole c is limits set =
    let merged = c.merge_reader.ensures in let loads = c.version-version.ensures.seat in
    let half : c.version-version.result / 2 ≡ c.args.raises = elim c.if-version-eq0.branch [
      | then-version-eq0 w ↦ eqb-true _ _ (sym w.result-is ∙ is)
      | else-version-eq0 w ↦ absurd (w.if-version-eq0.false (eqb-true _ _ (sym w.result-is ∙ is)))
    ] in
    wrote_all c.args.writer.now c.merge_reader.new.seat c.version-version.new.seat.known limits c.args.raises c.version-version.result merged.known.0 merged.places merged.own c.requires.raises
    (subst (λ known. Begins known c.version-version.new.seat.known) c.in-Ok.ensures.reader.1 loads.known) loads.up_to half set

pub returns-clause-all : goal.returns-clause-all
returns-clause-all c is limits set = ap (λ writer. writer.known) c.reader.ensures.seat ∙ whole c is limits set

pub returns-clause-never_lower : goal.returns-clause-never_lower
returns-clause-never_lower c is limits set grows =
    never_lower limits c.args.reader.known (subst (Begins c.args.reader.known) (whole c is limits set) c.merge_reader.ensures.known.1) grows
