use Rattle.std.proofs.Common.{◌∙◌, ◌==◌, ◌||◌, ap, arith}
use Rattle.nc_filter.proofs.bits.with_bit.Goals as goal

pub put_bit-requires : goal.put_bit-requires
put_bit-requires c = omega (arith, c.in_ok-out.ensures.long)

pub returns : goal.returns
returns c = λ n. c.put_bit.ensures n ∙ ap (λ b. b || (c.args.number == n)) (c.in_ok-out.ensures.same n)
