use Rattle.std.proofs.Common.{refl, sym, ap, ◌∙◌, length, rules, arith}
use Rattle.std.proofs.lemmas.Option.{slice_get_past}
use Rattle.ix_tables.specs.Bounded.{with_items}
use Rattle.ix_vector.proofs.Lists.{slice_set_same}
use Rattle.ix_vector.proofs.vector.polymorphic_vec.PolymorphicVecVector.get_mut.Goals as goal

pub returns-then-index-len : goal.returns-then-index-len
returns-then-index-len g c = (
  refl,
  record {
    writes_back = tt;
    value = search rules;
    bounds = search rules;
    holds = search rules;
    unchanged = λ item is. ap (with_items c.args.self.now) (slice_set_same c.args.self.now.items c.args.index item (c.item_mut.ensures.value ∙ is));
    within = search rules;
  },
)

pub returns-else-index-len : goal.returns-else-index-len
returns-else-index-len g c =
    let viewed = ap (λ vector. length vector.items) c.self.view_is in (
      refl,
      record {
        writes_back = tt;
        value = sym (slice_get_past c.args.self.now.items c.args.index (omega (arith, c.if-index-len.false, c.len.ensures, viewed)));
        bounds = search rules;
        holds = search rules;
        unchanged = λ item is. absurd cc;
        within = search rules;
      },
    )
