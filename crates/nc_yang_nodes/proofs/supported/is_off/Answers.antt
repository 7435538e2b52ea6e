use Rattle.nc_yang_nodes.specs.FeaturesOn.{is_on}
use Rattle.nc_yang_nodes.proofs.Supporting.{none_off, off_at}
use Rattle.nc_yang_nodes.proofs.supported.is_off.Goals as goal

pub returns-in-Some-clause-off : goal.returns-in-Some-clause-off
returns-in-Some-clause-off c = λ h.
    off_at c.args.scopes.now (is_on c.args.features.now) c.args.number _ c.is_unsupported.result c.in-Some.ensures c.is_unsupported.ensures h

pub returns-in-None-clause-kept : goal.returns-in-None-clause-kept
returns-in-None-clause-kept c = λ h. none_off c.args.scopes.now (is_on c.args.features.now) c.args.number c.in-None.ensures
