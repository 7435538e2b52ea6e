use Rattle.nc_yang_nodes.specs.FeaturesOn.{is_on}
use Rattle.nc_yang.proofs.names.DerivedDerives.are_alike.Goals as goal

pub returns : goal.returns
returns c = λ same. c.are_alike.ensures same (is_on c.args.self.now.features.now)
