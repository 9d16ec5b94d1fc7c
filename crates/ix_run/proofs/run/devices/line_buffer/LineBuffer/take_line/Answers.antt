use Rattle.std.proofs.Common.{refl, ◌-◌, ◌∙◌, ◌∷◌, ◌++◌, ap, sym, take, drop, arith}
use Rattle.std.proofs.lemmas.Grind.{common_steps}
use Rattle.ix_run.specs.Lines.{limited_line, line_feed}
use Rattle.ix_run.specs.inner.Input.{limited_line_append}
use Rattle.ix_run.proofs.Input.{limited_line_append-new, line_at-nil, take-range, drop-range}
use Rattle.ix_run.proofs.run.devices.line_buffer.LineBuffer.take_line.Goals as goal

pub returns-then-is_empty : goal.returns-then-is_empty
returns-then-is_empty c =
    let input = c.self.inside in
    let len = c.in-Some.len in
    let found = c.in-Some.ensures.found in
    let rest = take (input.rest_end - input.rest_start) (drop input.rest_start input.piece) in
    let before = drop-range input.piece input.rest_start input.rest_end len found.0 c.self.invariant.3 in
    let empty = c.if-is_empty.ensures.0 refl in
    rw (sym c.self.view_is) (
      take len rest,
      found.1,
      found.2 ∙ ap (λ l. take len rest ++ line_feed ∷ l) before,
      rw empty (ap limited_line (sym (take-range input.piece input.rest_start input.rest_end len found.0)) ∙ sym (limited_line_append-new (take len rest))),
      grind (arith, common_steps, found.0),
    )

pub returns : goal.returns
returns c =
    let input = c.self.inside in
    let len = c.in-Some.len in
    let found = c.in-Some.ensures.found in
    let rest = take (input.rest_end - input.rest_start) (drop input.rest_start input.piece) in
    let before = drop-range input.piece input.rest_start input.rest_end len found.0 c.self.invariant.3 in
    let nothing = rw (sym c.self.view_is) at c.requires in
    rw (sym c.self.view_is) (
      take len rest,
      found.1,
      found.2 ∙ ap (λ l. take len rest ++ line_feed ∷ l) before,
      line_at-nil _ _ nothing ∙ c.append_range-2.ensures ∙ ap (λ l. limited_line_append input.joined l) (sym (take-range input.piece input.rest_start input.rest_end len found.0)),
      grind (arith, common_steps, found.0),
    )
