use Rattle.std.proofs.Common.{◌∙◌, ◌||◌, ap}
use Rattle.nc_filter.specs.inner.Sets.{bit_of}
use Rattle.nc_filter.proofs.bits.joined.Goals as goal

pub returns : goal.returns
returns c = λ n. c.join.ensures n ∙ ap (λ b. b || bit_of c.args.others.now n) (c.in_ok-out.ensures.same n)
