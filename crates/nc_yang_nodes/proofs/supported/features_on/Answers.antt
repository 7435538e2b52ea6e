use Rattle.nc_yang_nodes.specs.FeaturesOn.{is_on}
use Rattle.nc_yang_nodes.proofs.Supporting.{are_on, keeps_given, keeps_on}
use Rattle.nc_yang_nodes.proofs.supported.features_on.Goals as goal

pub returns : goal.returns
returns c =
    let given = is_on c.args.given in
    let left = is_on c.narrowed_by-features.result in
    are_on c.args.scopes.now given (is_on c.together.result)
    (keeps_on c.args.scopes.now given left (is_on c.together.result)
    (keeps_on c.args.scopes.now given given left (keeps_given c.args.scopes.now given) c.narrowed_by-features.ensures) c.together.ensures.narrows)
    c.together.ensures.together
