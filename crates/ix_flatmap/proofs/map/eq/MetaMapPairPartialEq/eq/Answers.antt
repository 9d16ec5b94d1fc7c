use Rattle.std.proofs.Common.{◌≡◌, nat_eq, false, sym, ap, ◌∙◌, arith}
use Rattle.std.proofs.lemmas.Bool.Decides.{nat_tests}
use Rattle.ix_flatmap.specs.MapState.{map_items}
use Rattle.ix_flatmap.specs.MapCompared.{is_same_item, has_each}
use Rattle.ix_flatmap.proofs.MapLengths.{has_same-as_many, has_same-differ}
use Rattle.ix_flatmap.proofs.map.eq.MetaMapPairPartialEq.eq.Goals as goal

pub returns-then-len : goal.returns-then-len
returns-then-len g c =
    c.has_each_of.ensures
    ∙ (ap (has_each (is_same_item g.K.PartialEq.eq g.V.PartialEq.eq) (map_items c.args.self.now)) c.iter.ensures.items
    ∙ has_same-as_many g.K.PartialEq.eq g.V.PartialEq.eq g.met.K.Eq.laws g.met.V.PartialEq.laws c.args.self.now c.args.other.now c.len.ensures.distinct c.len-2.ensures.distinct
    (sym c.len.ensures.value ∙ (c.if-len.true ∙ c.len-2.ensures.value)))

pub returns-else-len : goal.returns-else-len
returns-else-len g c =
    let differ = c.if-len.false in
    let not : nat_eq c.len.result c.len-2.result ≡ false = grind (arith, nat_tests) in
    not ∙ sym (has_same-differ g.K.PartialEq.eq g.V.PartialEq.eq g.met.K.Eq.laws g.met.V.PartialEq.laws c.args.self.now c.args.other.now c.len.ensures.distinct c.len-2.ensures.distinct
    (λ same. differ (c.len.ensures.value ∙ (same ∙ sym c.len-2.ensures.value))))
