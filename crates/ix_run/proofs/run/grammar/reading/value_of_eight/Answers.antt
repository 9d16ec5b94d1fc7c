use Rattle.std.proofs.Common.{arith}
use Rattle.ix_run.proofs.Numbers.{eight_digits}
use Rattle.ix_run.proofs.run.grammar.reading.value_of_eight.Goals as goal

pub overflow_sub-digits : goal.overflow_sub-digits
overflow_sub-digits c =
    let eight = eight_digits c.args.eight.now c.told-eight c.requires in
    let (da, db, dc, dd, de, df, dg, dh) = eight.bounds in
    rw eight.is (da.0, (db.0, (dc.0, (dd.0, (de.0, (df.0, (dg.0, (dh.0, tt))))))))

pub overflow_cast-result : goal.overflow_cast-result
overflow_cast-result c =
    let eight = eight_digits c.args.eight.now c.told-eight c.requires in
    let (da, db, dc, dd, de, df, dg, dh) = eight.bounds in
    rw eight.is (record { fits = omega (arith, da) }, (record { fits = omega (arith, db) }, (record { fits = omega (arith, dc) }, (record { fits = omega (arith, dd) }, (record { fits = omega (arith, de) }, (record { fits = omega (arith, df) }, (record { fits = omega (arith, dg) }, (record { fits = omega (arith, dh) }, tt))))))))

pub overflow_mul-result : goal.overflow_mul-result
overflow_mul-result c =
    let eight = eight_digits c.args.eight.now c.told-eight c.requires in
    let (da, db, dc, dd, de, df, dg, dh) = eight.bounds in
    rw eight.is (record { fits = omega (arith, da) }, (record { fits = omega (arith, db) }, (record { fits = omega (arith, dc) }, (record { fits = omega (arith, dd) }, (record { fits = omega (arith, de) }, (record { fits = omega (arith, df) }, (record { fits = omega (arith, dg) }, (record { fits = omega (arith, dh) }, tt))))))))

pub overflow_add-result : goal.overflow_add-result
overflow_add-result c =
    let eight = eight_digits c.args.eight.now c.told-eight c.requires in
    let (da, db, dc, dd, de, df, dg, dh) = eight.bounds in
    rw eight.is (record { fits = omega (arith, da) }, (record { fits = omega (arith, da, db) }, (record { fits = omega (arith, da, db, dc) }, (record { fits = omega (arith, da, db, dc, dd) }, (record { fits = omega (arith, da, db, dc, dd, de) }, (record { fits = omega (arith, da, db, dc, dd, de, df) }, (record { fits = omega (arith, da, db, dc, dd, de, df, dg) }, (record { fits = omega (arith, da, db, dc, dd, de, df, dg, dh) }, tt))))))))

pub returns-clause-value : goal.returns-clause-value
returns-clause-value c =
    let eight = eight_digits c.args.eight.now c.told-eight c.requires in
    rw eight.is (omega arith)

pub returns-clause-bound : goal.returns-clause-bound
returns-clause-bound c =
    let eight = eight_digits c.args.eight.now c.told-eight c.requires in
    let (da, db, dc, dd, de, df, dg, dh) = eight.bounds in
    rw eight.is (omega (arith, da, db, dc, dd, de, df, dg, dh))
