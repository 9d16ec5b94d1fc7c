use Rattle.std.proofs.Common.{◌≡◌, ◌+◌, ◌-◌, ◌≤◌, ◌++◌, length, length-drop, take, drop, replicate, sym, ap, ◌∙◌, arith}
use Rattle.std.specs.Prelude.{filter}
use Rattle.std.proofs.lemmas.Grind.{common_steps}
use Rattle.std.proofs.lemmas.List.{take_at, drop_at}
use Rattle.ix_string.specs.Text.{IsTextByte}
use Rattle.ix_string.proofs.Retaining.{All-Retains, Retains-kept}
use Rattle.ix_string.proofs.Texts.{IsPadded-shortened}
use Rattle.ix_string.proofs.string.static_string.StaticStringString.remove_if.Goals as goal

pub move_kept_back-start-requires-clause-callable : goal.move_kept_back-start-requires-clause-callable
move_kept_back-start-requires-clause-callable g c = rw c.self.view_is c.requires

pub invariant_of-self : goal.invariant_of-self
invariant_of-self g c =
    let was = c.self.invariant in
    let padded = c.self.inside.bytes in
    let count = c.self.inside.count in
    let text = take count padded in
    let moved = c.move_kept_back-start.new.buffer in
    let n = c.move_kept_back-start.result in
    let within = was.within in
    let counted : length text ≡ count = grind (arith, common_steps, was.whole) in
    let place : n ≤ count = omega (arith, c.move_kept_back-start.ensures.within) in
    let whole : length moved ≡ count = c.move_kept_back-start.auto.buffer ∙ counted in
    let from_zero : 0 + n ≡ n = omega arith in
    let front : take count (moved ++ drop count padded) ≡ moved = take_at moved (drop count padded) count whole in
    let behind : drop count (moved ++ drop count padded) ≡ drop count padded = drop_at moved (drop count padded) count whole in
    let shut : c.close_gap_with_zeros.new.buffer ≡ drop (0 + n) (take count (moved ++ drop count padded)) ++ (replicate n 0 ++ drop count (moved ++ drop count padded)) = c.close_gap_with_zeros.ensures in
    let shorter : length (drop n moved) ≡ count - n = omega (arith, length-drop n moved) in
    let is = All-Retains (λ b. IsTextByte b) (λ p x b q. goal.F-step g p x b q) c.args.f text (drop n moved) c.move_kept_back-start.ensures.kept was.text in
    IsPadded-shortened g.row.CAPACITY count n padded (drop n moved) c.close_gap_with_zeros.new.buffer was place shorter is (rw (shut, from_zero, front, behind))

pub returns-clause-filtered : goal.returns-clause-filtered
returns-clause-filtered g c kept says =
    let was = c.self.invariant in
    let padded = c.self.inside.bytes in
    let count = c.self.inside.count in
    let text = take count padded in
    let moved = c.move_kept_back-start.new.buffer in
    let n = c.move_kept_back-start.result in
    let counted : length text ≡ count = grind (arith, common_steps, was.whole) in
    let whole : length moved ≡ count = c.move_kept_back-start.auto.buffer ∙ counted in
    let from_zero : 0 + n ≡ n = omega arith in
    let front : take count (moved ++ drop count padded) ≡ moved = take_at moved (drop count padded) count whole in
    let shut : c.close_gap_with_zeros.new.buffer ≡ drop (0 + n) (take count (moved ++ drop count padded)) ++ (replicate n 0 ++ drop count (moved ++ drop count padded)) = c.close_gap_with_zeros.ensures in
    let shorter : length (drop n moved) ≡ count - n = omega (arith, length-drop n moved, whole) in
    let left : take (count - n) c.close_gap_with_zeros.new.buffer ≡ drop n moved = rw (shut, from_zero, front) (take_at (drop n moved) _ (count - n) shorter) in
    left
    ∙ Retains-kept (λ p x b q. goal.F-step g p x b q) kept c.args.f says text (drop n moved) c.move_kept_back-start.ensures.kept
    ∙ ap (filter kept) c.self.view_is
