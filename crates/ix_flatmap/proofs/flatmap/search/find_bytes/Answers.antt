use Rattle.std.proofs.Common.{rules, ◌≡◌, true, Some, sym, ap, ◌∙◌, arith}
use Rattle.std.specs.Str.{bytes_eq}
use Rattle.ix_slottable.specs.SlotTableState.{value_at}
use Rattle.ix_flatmap.specs.MapState.{has_bytes}
use Rattle.ix_flatmap.proofs.FlatBounds.{map_entry-ended}
use Rattle.ix_flatmap.proofs.MapBytes.{find-here}
use Rattle.ix_flatmap.proofs.flatmap.search.find_bytes.Goals as goal

pub returns-in-loop-place : goal.returns-in-loop-place
returns-in-loop-place g c =
    let yes : bytes_eq (g.K.AsSlice.items c.in-Some.pair.now.key) c.args.bytes.now ≡ true = search rules in
    let at : value_at c.args.pairs.now c.loop-place.place ≡ Some c.in-Some.pair.now = sym (c.in-Some.ensures.value ∙ ap (value_at c.args.pairs.now) c.new-place.ensures) in
    ap (λ place. Some (place, c.in-Some.pair.now)) c.new-place.ensures
    ∙ sym (find-here (λ entry. has_bytes g.K.AsSlice.items entry.1.key c.args.bytes.now) c.loop-place.place c.args.pairs.now.values c.loop-place.place c.in-Some.pair.now at yes)
    ∙ c.loop-place.invariant

pub returns : goal.returns
returns g c =
    let ended = c.loop-place-test.false in
    map_entry-ended (has_bytes g.K.AsSlice.items) c.args.pairs.now c.args.end c.loop-place.place c.args.bytes.now c.requires (omega (arith, ended)) c.loop-place.invariant
