use Rattle.std.proofs.Common.{◌+◌, ◌-◌, ◌*◌, length, get_or, arith}
use Rattle.std.proofs.lemmas.Grind.{common_steps}
use Rattle.ix_run.specs.declared.run.grammar.reading.TheConstants.{SAFE_LEN}
use Rattle.ix_run.proofs.Numbers.{next_digit, few_digits_fit}
use Rattle.ix_run.proofs.run.grammar.reading.value_after.Goals as goal

pub overflow_mul-value : goal.overflow_mul-value
overflow_mul-value c =
    let k = SAFE_LEN - length c.args.digits.now in
    let next = next_digit c.loop-byte.value 0 k c.loop-byte.byte-index c.loop-byte.invariant.below (omega arith) in
    record { fits = omega (arith, few_digits_fit (c.loop-byte.value * 10 + 0) (k + (c.loop-byte.byte-index + 1)) next (omega (arith, c.loop-byte-test.true, c.requires.few))) }

pub overflow_add-value : goal.overflow_add-value
overflow_add-value c =
    let k = SAFE_LEN - length c.args.digits.now in
    let digit = get_or c.args.digits.now c.loop-byte.byte-index 0 - 48 in
    let next = next_digit c.loop-byte.value digit k c.loop-byte.byte-index c.loop-byte.invariant.below (omega (arith, c.if-byte-gt57.false)) in
    record { fits = few_digits_fit (c.loop-byte.value * 10 + digit) (k + (c.loop-byte.byte-index + 1)) next (omega (arith, c.loop-byte-test.true, c.requires.few)) }

pub loop-byte-preserved : goal.loop-byte-preserved
loop-byte-preserved c =
    let k = SAFE_LEN - length c.args.digits.now in
    let digit = get_or c.args.digits.now c.loop-byte.byte-index 0 - 48 in
    record {
      below = next_digit c.loop-byte.value digit k c.loop-byte.byte-index c.loop-byte.invariant.below (omega (arith, c.if-byte-gt57.false));
      digits = grind (arith, common_steps);
      value = grind (arith, common_steps);
    }
