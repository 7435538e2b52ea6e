use Rattle.std.proofs.Common.{◌∙◌}
use Rattle.nc_filter.proofs.BitLemmas.{bit_pushed}
use Rattle.nc_filter.proofs.bits.grown.Goals as goal

pub zeros-preserved : goal.zeros-preserved
zeros-preserved c = λ n. bit_pushed c.zeros.out c.push.new.self n c.in_ok-push.ensures.ok ∙ c.zeros.invariant n
