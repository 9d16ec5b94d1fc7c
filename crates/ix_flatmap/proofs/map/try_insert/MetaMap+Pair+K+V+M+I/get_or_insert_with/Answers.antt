use Rattle.std.proofs.Common.{◌≡◌, ◌+◌, Some, None, IsSome, length, inl, refl, sym, ap, ◌∙◌, subst}
use Rattle.std.specs.Prelude.{option_map, slice_get, unwrap_or}
use Rattle.std.specs.Option.{UnwrapsOrElse}
use Rattle.ix_slottable.specs.SlotTableState.{SlotTableState, IsFree, held_count}
use Rattle.ix_slottable.proofs.Counts.{held_count-slot_table_set}
use Rattle.ix_flatmap.specs.MapState.{HasDistinctKeys, map_entry, map_value}
use Rattle.ix_flatmap.specs.MapSteps.{map_insert}
use Rattle.ix_flatmap.specs.declared.map.pair.Pair.{Pair}
use Rattle.ix_flatmap.proofs.MapEntries.{map_entry-place, map_entry-without_place}
use Rattle.ix_flatmap.proofs.MapSteps.{map_insert-fresh, HasDistinctKeys-inserted, map_value-inserted, map_value-inserted_other, map_replace-found, map_replace-found_set, pair_set-found, value_at-new, map_replace-new, map_replace-new_set, map_value-map_set, map_value-map_set_other, map_value-replace_new, map_value-replace_new_other}
use Rattle.ix_flatmap.proofs.map.try_insert.MetaMap+Pair+K+V+M+I.get_or_insert_with.Goals as goal

pub value_mut-requires : goal.value_mut-requires
value_mut-requires g c =
    let eq = g.K.PartialEq.eq in
    let has = subst (λ s. Some c.in-Some.place ≡ option_map (λ e. e.0) (map_entry eq s c.args.key)) c.self.view_is c.in-Some.ensures in
    subst IsSome (sym (map_entry-place eq c.args.self.now c.args.key c.in-Some.place has).2.at) refl

pub returns-in-Some : goal.returns-in-Some
returns-in-Some g c =
    let eq = g.K.PartialEq.eq in
    let laws = g.met.K.Eq.laws in
    let s = c.args.self.now in
    let key = c.args.key in
    let place = c.in-Some.place in
    let at = subst (λ s. Some place ≡ option_map (λ e. e.0) (map_entry eq s key)) c.self.view_is c.in-Some.ensures in
    let entry = map_entry-place eq s key place at in
    let found = entry.1 in
    let has : map_value eq s key ≡ Some entry.0.value = ap (option_map (λ e. e.1.value)) found in
    let shown : Some entry.0.value ≡ Some c.value_mut.result.now = sym (ap (option_map (λ pair. pair.value)) entry.2.at) ∙ c.value_mut.ensures.value in
    let is : c.value_mut.result.now ≡ entry.0.value = cc in
    let distinct = subst (HasDistinctKeys eq) c.self.view_is c.self.invariant.0 in
    let set = map_replace-found_set eq laws s key (place, entry.0) found entry.2.at in (
      λ i. inl (c.value_mut.result.ghost_name, λ written. (pair_set-found eq laws s key (place, entry.0) found written ∙ sym (map_replace-found eq laws s key (place, entry.0) found written)) i),
      record {
        writes_back = tt;
        value = subst (λ o. UnwrapsOrElse o (goal.F-post g c.args.f) c.value_mut.result.now) (sym has) is;
        computed = λ given computes. is ∙ ap (λ o. unwrap_or o given) (sym has);
        full = (λ err. absurd (cc), λ both. absurd (let no : Some entry.0.value ≡ None = sym has ∙ both.0 in cc));
        returned = tt;
        holds = λ written ok. ap (λ t. map_value eq t key) (map_replace-found eq laws s key (place, entry.0) found written) ∙ map_value-map_set eq laws s key written distinct (subst IsSome (sym has) refl);
        kept = λ written other differs. ap (λ t. map_value eq t other) (map_replace-found eq laws s key (place, entry.0) found written) ∙ map_value-map_set_other eq laws s key written distinct other differs;
        count = λ written ok absent. absurd (let no : Some entry.0.value ≡ None = sym has ∙ absent in cc);
        room = λ written ok absent. absurd (let no : Some entry.0.value ≡ None = sym has ∙ absent in cc);
        same_count = λ written some. ap held_count (set written) ∙ held_count-slot_table_set s place entry.0 (record entry.0 { value = written }) entry.2.at;
        same_free = λ written some. ap (λ t. t.free) (set written);
        known = subst (λ (s : SlotTableState (Pair g.row.K.Denot g.row.V.Denot)). g.M.Items.Table.IsLen (length s.values)) c.self.view_is c.seat-seat.ensures.known;
      },
    )

pub insert-requires-clause-absent : goal.insert-requires-clause-absent
insert-requires-clause-absent g c = map_entry-without_place g.K.PartialEq.eq c.self.inside.pairs c.args.key c.in_default.ensures

pub invariant_of-self : goal.invariant_of-self
invariant_of-self g c =
    let fresh = map_entry-without_place g.K.PartialEq.eq c.self.inside.pairs c.args.key c.in_default.ensures in (
      HasDistinctKeys-inserted g.K.PartialEq.eq g.met.K.Eq.laws c.self.inside.pairs _ _ _ c.insert.ensures.step c.self.invariant.0 fresh,
      c.insert.ensures.fits,
    )

pub returns : goal.returns
returns g c =
    let eq = g.K.PartialEq.eq in
    let laws = g.met.K.Eq.laws in
    let inside = c.self.inside.pairs in
    let s = c.args.self.now in
    let new = c.insert.new.pairs in
    let key = c.args.key in
    let value = c.f.result in
    let place = c.in-Some-next_free_key.place in
    let step = c.insert.ensures.step in
    let was_first = c.in-Some-next_free_key.ensures.value in
    let fresh = map_entry-without_place eq inside key c.in_default.ensures in
    let none = subst (λ t. map_entry eq t key ≡ None) c.self.view_is fresh in
    let absent : map_value eq s key ≡ None = ap (option_map (λ e. e.1.value)) none in
    let first = sym (subst (λ t. Some place ≡ slice_get t.free 0) c.self.view_is was_first) in
    let free = subst (λ t. IsFree t place) c.self.view_is c.in-Some-next_free_key.ensures.free in
    let inserted : new ≡ map_insert eq s key value =
    step.map ∙ sym (map_insert-fresh eq inside key value fresh) ∙ ap (λ t. map_insert eq t key value) c.self.view_is in
    let distinct = HasDistinctKeys-inserted eq laws inside new _ _ step c.self.invariant.0 fresh in
    let some = subst IsSome (was_first ∙ sym step.key) refl in
    let holds = map_value-inserted eq laws inside new _ _ step c.self.invariant.0 fresh some in
    let shown : Some value ≡ Some c.value_mut-in-Ok.result.now =
    sym (ap (option_map (λ pair. pair.value)) (value_at-new eq laws s key new place value none first free inserted)) ∙ c.value_mut-in-Ok.ensures.value in
    let is : value ≡ c.value_mut-in-Ok.result.now = cc in
    let set = map_replace-new_set eq laws s key new place value none first free inserted in (
      λ i. inl (c.value_mut-in-Ok.result.ghost_name, λ written. map_replace-new eq laws s key new place value none first free inserted written i),
      record {
        writes_back = tt;
        value = subst (λ o. UnwrapsOrElse o (goal.F-post g c.args.f) c.value_mut-in-Ok.result.now) (sym absent) (subst (goal.F-post g c.args.f) is c.f.ensures);
        computed = λ given computes. computes _ (subst (goal.F-post g c.args.f) is c.f.ensures) ∙ ap (λ o. unwrap_or o given) (sym absent);
        full = (λ err. absurd (cc), λ both. absurd (let no : Some place ≡ None = sym first ∙ ap (λ keys. slice_get keys 0) both.1 in cc));
        returned = tt;
        holds = λ written ok. map_value-replace_new eq laws s key new place value none first free inserted distinct written (subst IsSome (sym holds) refl);
        kept = λ written other differs. map_value-replace_new_other eq laws s key new place value none first free inserted distinct written other differs
            ∙ (map_value-inserted_other eq laws inside new _ _ step c.self.invariant.0 fresh other differs ∙ ap (λ t. map_value eq t other) c.self.view_is);
        count = λ written ok was_none. ap held_count (set written) ∙ held_count-slot_table_set new place (record { key = key; value = value }) (record { key = key; value = written }) (value_at-new eq laws s key new place value none first free inserted) ∙ step.count some ∙ ap (λ t. held_count t + 1) c.self.view_is;
        room = λ written ok was_none. ap (λ t. length t.free + 1) (set written) ∙ step.room some ∙ ap (λ t. length t.free) c.self.view_is;
        same_count = λ written has. absurd (let no = subst IsSome absent has in cc);
        same_free = λ written has. absurd (let no = subst IsSome absent has in cc);
        known = subst (λ (s : SlotTableState (Pair g.row.K.Denot g.row.V.Denot)). g.M.Items.Table.IsLen (length s.values)) c.self.view_is c.seat-seat.ensures.known;
      },
    )
