use Rattle.std.proofs.Common.{◌≡◌, ◌+◌, ◌-◌, length, take, drop, ℕ, arith, ap, ◌∙◌}
use Rattle.std.proofs.lemmas.Grind.{common_steps}
use Rattle.std.specs.Prelude.{replicate}
use Rattle.std.specs.List.{remove_range}
use Rattle.ix_string.proofs.Gaps.{put_mid-behind}
use Rattle.ix_string.proofs.string.gaps.close_gap_with_zeros.Goals as goal

pub returns : goal.returns
returns c =
    let range = c.requires.range in
    let room = c.requires.room in
    let buffer = c.args.buffer.now in
    let e = c.args.len - c.args.n in
    let i = c.args.idx in
    let j = i + c.args.n in
    let front = remove_range (take c.args.len buffer) i j in
    let counted : length front ≡ e = grind (arith, common_steps) in
    let zeros = c.fill.ensures.after (λ y is. is) in
    let part : length (take (c.args.len - e) (drop e c.close_gap.new.buffer)) ≡ c.args.n = grind (arith, common_steps, c.close_gap.auto.buffer) in
    let blank : c.fill.new.self ≡ replicate c.args.n 0 = zeros ∙ ap (λ (k : ℕ). replicate k 0) part in
    rw (c.close_gap.ensures, blank) (put_mid-behind front buffer (replicate c.args.n 0) e (c.args.len - e) c.args.len counted (omega arith))
