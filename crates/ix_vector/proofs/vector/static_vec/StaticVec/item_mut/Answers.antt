use Rattle.std.proofs.Common.{◌<◌, ◌∙◌, Some, refl, sym, ap, arith}
use Rattle.std.proofs.Math.ListN.{get_or}
use Rattle.std.proofs.Math.Seq.{take-set-lt}
use Rattle.std.proofs.lemmas.List.{get_or-take}
use Rattle.std.proofs.lemmas.Option.{slice_get-get_or}
use Rattle.ix_vector.proofs.Fronts.{length-front}
use Rattle.ix_vector.proofs.vector.static_vec.StaticVec.item_mut.Goals as goal

pub returns : goal.returns
returns g c =
    let places = c.self.inside.places.items in
    let len = c.self.inside.len in
    let i = c.args.index in
    let item = c.in-Some.item.now in
    let counted = length-front c.self.invariant c.self.view_is in
    let below : i < len = omega (arith, c.requires, counted) in
    let shown = ap (λ xs. get_or xs i item) (sym c.self.view_is) in (
      (refl {a = c.in-Some.item.ghost_name}, λ w. rw (← c.self.view_is) (take-set-lt len places i w below)),
      record {
        writes_back = tt;
        value = slice_get-get_or c.args.self.now i item c.requires ∙ ap Some (shown ∙ get_or-take len places i item below ∙ sym c.in-Some.ensures.value);
      },
    )
