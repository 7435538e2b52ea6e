use Rattle.nc_yang_nodes.specs.FeaturesOn.{is_on}
use Rattle.nc_yang_nodes.proofs.Supporting.{narrows_on}
use Rattle.nc_yang_nodes.proofs.supported.together.Goals as goal

pub loop-number-preserved : goal.loop-number-preserved
loop-number-preserved c =
    narrows_on c.args.scopes.now (is_on c.args.given) (is_on c.loop-number.features) (is_on c.taken_off-features.result) c.loop-number.invariant c.taken_off-features.ensures.narrows
