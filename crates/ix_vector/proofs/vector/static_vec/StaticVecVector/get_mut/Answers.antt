use Rattle.std.proofs.Common.{refl, sym, ◌∙◌, rules, arith}
use Rattle.std.proofs.lemmas.Option.{slice_get_past}
use Rattle.ix_vector.proofs.Fronts.{length-front}
use Rattle.ix_vector.proofs.Lists.{slice_set_same}
use Rattle.ix_vector.proofs.vector.static_vec.StaticVecVector.get_mut.Goals as goal

pub returns-then-index-self : goal.returns-then-index-self
returns-then-index-self g c = (
  refl,
  record {
    writes_back = tt;
    value = search rules;
    bounds = search rules;
    holds = search rules;
    unchanged = λ item is. slice_set_same c.args.self.now c.args.index item (c.item_mut.ensures.value ∙ is);
    within = search rules;
  },
)

pub returns-else-index-self : goal.returns-else-index-self
returns-else-index-self g c =
    let past = c.if-index-self.false in
    let counted = length-front c.self.invariant c.self.view_is in (
      refl,
      record {
        writes_back = tt;
        value = sym (slice_get_past c.args.self.now c.args.index (omega (arith, past, counted)));
        bounds = search rules;
        holds = search rules;
        unchanged = λ item is. absurd cc;
        within = search rules;
      },
    )
