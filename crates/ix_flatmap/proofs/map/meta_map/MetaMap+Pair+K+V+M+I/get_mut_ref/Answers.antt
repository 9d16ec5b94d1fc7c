use Rattle.std.proofs.Common.{◌≡◌, length, Some, None, IsSome, refl, sym, ap, ◌∙◌, inl, subst}
use Rattle.std.specs.Prelude.{option_map}
use Rattle.std.specs.Option.{option_map_or}
use Rattle.ix_slottable.specs.SlotTableState.{SlotTableState}
use Rattle.ix_flatmap.specs.MapState.{HasDistinctKeys, map_entry}
use Rattle.ix_flatmap.specs.declared.map.pair.Pair.{Pair}
use Rattle.ix_flatmap.specs.MapSteps.{pair_set}
use Rattle.ix_flatmap.proofs.MapEntries.{map_entry-place, map_value-none}
use Rattle.ix_flatmap.proofs.MapSteps.{map_value-map_set, map_value-map_set_other}
use Rattle.ix_flatmap.proofs.map.meta_map.MetaMap+Pair+K+V+M+I.get_mut_ref.Goals as goal

pub value_mut-requires : goal.value_mut-requires
value_mut-requires g c =
    let at = subst (λ s. Some c.in-Some.place ≡ option_map (λ e. e.0) (map_entry g.K.PartialEq.eq s c.args.key.now)) c.self.view_is c.in-Some.ensures in
    let entry = map_entry-place g.K.PartialEq.eq c.args.self.now c.args.key.now c.in-Some.place at in
    subst IsSome (sym entry.2.at) refl

pub returns-in-Some : goal.returns-in-Some
returns-in-Some g c =
    let at = subst (λ s. Some c.in-Some.place ≡ option_map (λ e. e.0) (map_entry g.K.PartialEq.eq s c.args.key.now)) c.self.view_is c.in-Some.ensures in
    let entry = map_entry-place g.K.PartialEq.eq c.args.self.now c.args.key.now c.in-Some.place at in (
      ap (λ entry. inl (c.value_mut.result.ghost_name, λ value. option_map_or (λ e. pair_set c.args.self.now e.0 value) entry c.args.self.now)) (sym entry.1),
      record {
        writes_back = tt;
        value = sym c.value_mut.ensures.value ∙ (ap (option_map (λ pair. pair.value)) entry.2.at ∙ sym (ap (option_map (λ e. e.1.value)) entry.1));
        holds = λ written. map_value-map_set g.K.PartialEq.eq g.met.K.Eq.laws c.args.self.now c.args.key.now written (subst (HasDistinctKeys g.K.PartialEq.eq) c.self.view_is c.self.invariant.0);
        kept = λ written. map_value-map_set_other g.K.PartialEq.eq g.met.K.Eq.laws c.args.self.now c.args.key.now written (subst (HasDistinctKeys g.K.PartialEq.eq) c.self.view_is c.self.invariant.0);
        known = subst (λ (s : SlotTableState (Pair g.row.K.Denot g.row.V.Denot)). g.M.Items.Table.IsLen (length s.values)) c.self.view_is c.seat-seat.ensures.known;
      },
    )

pub returns-in-None : goal.returns-in-None
returns-in-None g c = (
  refl,
  record {
    writes_back = tt;
    value = map_value-none g.K.PartialEq.eq c.args.self.now c.args.key.now (subst (λ s. None ≡ option_map (λ e. e.0) (map_entry g.K.PartialEq.eq s c.args.key.now)) c.self.view_is c.in-None.ensures);
    holds = λ written. map_value-map_set g.K.PartialEq.eq g.met.K.Eq.laws c.args.self.now c.args.key.now written (subst (HasDistinctKeys g.K.PartialEq.eq) c.self.view_is c.self.invariant.0);
    kept = λ written. map_value-map_set_other g.K.PartialEq.eq g.met.K.Eq.laws c.args.self.now c.args.key.now written (subst (HasDistinctKeys g.K.PartialEq.eq) c.self.view_is c.self.invariant.0);
    known = subst (λ (s : SlotTableState (Pair g.row.K.Denot g.row.V.Denot)). g.M.Items.Table.IsLen (length s.values)) c.self.view_is c.seat-seat.ensures.known;
  },
)
