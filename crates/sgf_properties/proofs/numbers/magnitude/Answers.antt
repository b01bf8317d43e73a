use Rattle.sgf_properties.proofs.Common.{arith}
use Rattle.sgf_properties.proofs.DecimalValue.{decimal_value_more, decimal_value_take, digits_more}
use Rattle.sgf_properties.proofs.numbers.magnitude.Goals as goal

pub overflow_mul-value : goal.overflow_mul-value
overflow_mul-value c =
    let l = c.loop-digit in
    omega (arith, l.invariant.so_far, decimal_value_take c.args.digits.now l.digit-index 18 l.auto.digit-index-end (omega arith) l.invariant.digits)

pub overflow_add-value : goal.overflow_add-value
overflow_add-value c =
    let l = c.loop-digit in
    omega (arith, l.invariant.so_far, decimal_value_take c.args.digits.now l.digit-index 18 l.auto.digit-index-end (omega arith) l.invariant.digits)

pub loop-digit-preserved : goal.loop-digit-preserved
loop-digit-preserved c =
    let digits = c.args.digits.now in
    let i = c.loop-digit.digit-index in
    grind (arith, decimal_value_more digits i c.loop-digit-test.true, digits_more digits i c.loop-digit-test.true)
