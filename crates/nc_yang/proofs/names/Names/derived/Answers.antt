use Rattle.nc_yang_nodes.specs.FeaturesOn.{is_on}
use Rattle.nc_yang.proofs.NamingLemmas.{are_named}
use Rattle.nc_yang.proofs.names.Names.derived.Goals as goal

pub returns : goal.returns
returns c =
    are_named c.args.self.now c.self.inside.scopes.now c.self.inside.identities (is_on c.args.features.now) c.args.bases.now c.in_ok-numbers.numbers
    c.as_slice.result.now c.names_of.result c.self.invariant.1 c.self.view_is c.in_ok-numbers.ensures c.as_slice.ensures c.names_of.ensures
