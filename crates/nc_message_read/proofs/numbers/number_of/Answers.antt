use Rattle.std.proofs.Common.{◌∙◌}
use Rattle.nc_message_read.proofs.Numbered.{next_digit}
use Rattle.nc_message_read.proofs.numbers.number_of.Goals as goal

pub loop-digit-preserved : goal.loop-digit-preserved
loop-digit-preserved c = (
  c.with_digit-number.ensures.small,
  c.loop-digit.invariant.1
      ∙ next_digit c.args.radix c.requires c.loop-digit.number c.with_digit-number.result c.args.digits.now c.loop-digit.digit-index c.loop-digit-test.true c.with_digit-number.ensures.value,
)
