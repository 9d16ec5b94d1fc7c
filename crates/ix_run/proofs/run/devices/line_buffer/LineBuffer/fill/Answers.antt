use Rattle.std.proofs.Common.{◌≡◌, ◌-◌, refl, sym, arith}
use Rattle.std.proofs.lemmas.Grind.{common_steps}
use Rattle.std.proofs.lemmas.Bool.{eqb-true}
use Rattle.ix_run.proofs.run.devices.line_buffer.LineBuffer.fill.Goals as goal

pub returns : goal.returns
returns g c =
    let input = c.self.inside in
    let read = rw c.in-Some.is at c.in_ok-count.ensures in
    let nothing = rw (sym c.self.view_is) at c.requires.in_place in
    let size = c.self.invariant.0 in
    let none : input.line_end - input.line_start ≡ 0 = grind (arith, common_steps, nothing, size) in
    let count : c.in-Some.count - 0 ≡ c.in-Some.count = omega arith in
    rw (sym c.self.view_is, none, count) (read.1, λ ended. read.2 (eqb-true _ _ ended) (grind (arith, common_steps)), refl, refl, grind (arith, common_steps))
