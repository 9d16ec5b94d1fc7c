use Rattle.ix_tables.proofs.FullArrays.{length-refill, take-refill, between-refill, drop-refill}
use Rattle.ix_tables.proofs.cells.full_array.put_defaults.Goals as goal

pub returns : goal.returns
returns g c =
    let xs = c.args.array.now.items in
    let ys = c.fill_with_defaults.new.places in
    let a = c.args.start in
    let e = c.args.end in
    let same = rw c.as_mut_slice-places.ensures.value at c.fill_with_defaults.ensures.len in
    let written = between-refill xs ys a e c.requires.order c.requires.bounds same in
    rw c.as_mut_slice-places.ensures.value (record {
      len = length-refill xs ys a e c.requires.order c.requires.bounds same;
      front = take-refill xs ys a e c.requires.order c.requires.bounds same;
      defaults = rw written c.fill_with_defaults.ensures.defaults;
      behind = drop-refill xs ys a e c.requires.order c.requires.bounds same;
    })
