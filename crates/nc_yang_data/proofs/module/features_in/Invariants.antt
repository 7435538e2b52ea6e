-- The features of the statements before.
use Rattle.std.proofs.Common.{◌≡◌, take}
use Rattle.nc_yang_nodes.specs.FeaturesOn.{is_on}
use Rattle.nc_yang_data.specs.Modules as modules
use Rattle.nc_yang_data.proofs.module.features_in.Given as goal

abbrev pub invariant-loop-statement : goal.invariant-loop-statement
invariant-loop-statement l = l.found ≡ modules.features_in (is_on l.features) l.text (take l.statement-index l.among)
