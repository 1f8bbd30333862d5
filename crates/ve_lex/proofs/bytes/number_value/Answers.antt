use Rattle.std.proofs.Common.{◌≤◌, arith}
use Rattle.ve_lex.proofs.Values.{number_value-more, digit_at, below_power, below_most}
use Rattle.ve_lex.proofs.bytes.number_value.Goals as goal
use Rattle.ve_lex.proofs.bytes.number_value.Goals.{After-from}

-- what is added is a digit's value
is_digit_value : (c : After-from) → c.from.result ≤ 9
is_digit_value c = omega (arith, digit_at c.args.digits.now c.loop-digit.digit-index c.requires.digits c.loop-digit-test.true)

pub overflow_mul-value : goal.overflow_mul-value
overflow_mul-value c = omega (arith, below_most c.loop-digit.value c.loop-digit.digit-index 0 c.loop-digit.invariant.small (omega arith) (omega arith))

pub overflow_add-value : goal.overflow_add-value
overflow_add-value c = omega (arith, below_most c.loop-digit.value c.loop-digit.digit-index c.from.result c.loop-digit.invariant.small (is_digit_value c) (omega arith))

pub loop-digit-preserved : goal.loop-digit-preserved
loop-digit-preserved c = record {
  so_far = omega (arith, number_value-more c.args.digits.now c.loop-digit.digit-index c.loop-digit-test.true);
  small = below_power _ _ _ c.loop-digit.invariant.small (is_digit_value c);
}
