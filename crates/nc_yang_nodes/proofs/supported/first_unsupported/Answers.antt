use Rattle.std.proofs.Common.{refl, arith}
use Rattle.nc_yang_nodes.specs.FeaturesOn.{is_on}
use Rattle.nc_yang_nodes.proofs.Supporting.{together_end}
use Rattle.nc_yang_nodes.proofs.supported.first_unsupported.Goals as goal

pub returns-then-is_off : goal.returns-then-is_off
returns-then-is_off c = c.if-is_off.ensures.off refl

pub returns : goal.returns
returns c = together_end c.args.scopes.now (is_on c.args.features.now) c.loop-number.number (omega arith) c.loop-number.invariant
