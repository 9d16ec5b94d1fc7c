use Rattle.std.proofs.Common.{◌≡◌, ◌<◌, ◌+◌, ◌-◌, ◌^◌, length, drop}
use Rattle.std.specs.Str.{all_ascii_digits}
use Rattle.ix_run.specs.Reading.{digits_value_from}
use Rattle.ix_run.specs.declared.run.grammar.reading.TheConstants.{SAFE_LEN}
use Rattle.ix_run.proofs.run.grammar.reading.value_after.Given as goal

abbrev pub invariant-loop-byte : goal.invariant-loop-byte
invariant-loop-byte l = record {
  below : l.value < 10 ^ (SAFE_LEN - length l.digits + l.byte-index);
  digits : all_ascii_digits l.fn.digits ≡ all_ascii_digits (drop l.byte-index l.digits);
  value : digits_value_from l.fn.front l.fn.digits ≡ digits_value_from l.value (drop l.byte-index l.digits);
}
