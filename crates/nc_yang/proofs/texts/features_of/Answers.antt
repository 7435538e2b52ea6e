use Rattle.nc_yang.proofs.Outcomes.{on_by}
use Rattle.nc_yang.proofs.texts.features_of.Goals as goal

pub returns : goal.returns
returns c = on_by c.args.scopes.now c.args.lines.now c.in_ok-features.features c.in_ok-features.ensures c.features_on.result c.features_on.ensures
