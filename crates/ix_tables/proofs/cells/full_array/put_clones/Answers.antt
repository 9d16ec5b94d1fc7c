use Rattle.std.proofs.Common.{◌+◌, ◌≤◌, length, arith}
use Rattle.ix_tables.proofs.FullArrays.{length-refill, take-refill, AppendsClones-refill}
use Rattle.ix_tables.proofs.cells.full_array.put_clones.Goals as goal

pub returns : goal.returns
returns g c =
    let xs = c.args.array.now.items in
    let ys = c.fill_with_clones.new.places in
    let a = c.args.start in
    let e = a + length c.args.items.now in
    let order : a ≤ e = omega arith in
    let same = rw c.as_mut_slice-places.ensures.value at c.fill_with_clones.ensures.len in
    rw c.as_mut_slice-places.ensures.value (record {
      len = length-refill xs ys a e order c.requires same;
      front = take-refill xs ys a e order c.requires same;
      places = AppendsClones-refill xs ys a e order c.requires same g.T.Clone.is_clone c.args.items.now c.fill_with_clones.result c.fill_with_clones.ensures.places;
      memory = c.fill_with_clones.ensures.memory;
    })
