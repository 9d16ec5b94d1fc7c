use Rattle.std.proofs.Common.{arith, ◌≡◌, ◌+◌, ◌++◌, ◌∷◌, [], take}
use Rattle.std.specs.Prelude.{slice_set}
use Rattle.std.proofs.lemmas.Grind.{common_steps}
use Rattle.std.proofs.lemmas.List.Elements.{AllZip-push}
use Rattle.ix_tables.proofs.cells.full_array.fill_with_clones.Goals as goal

pub loop-i-preserved : goal.loop-i-preserved
loop-i-preserved g c =
    let at = c.loop-i.invariant in
    let items = c.args.items.now in
    let places = c.loop-i.places in
    let i = c.loop-i.i in
    let copy = c.in-Ok.copy in
    let x = c.index-items-i.result in
    let more = c.loop-i-test.true in
    let taken : take (i + 1) items ≡ take i items ++ x ∷ [] = grind (arith, common_steps) in
    let put : take (i + 1) (slice_set places i copy) ≡ take i places ++ copy ∷ [] = grind (arith, common_steps) in
    record {
      clones = rw (taken, put) (AllZip-push g.T.Clone.is_clone (take i items) (take i places) x copy at.clones c.in-Ok.ensures.cases);
      len = grind (arith, common_steps);
    }
