use Rattle.nc_yang_scopes.proofs.Scopings as scopings
use Rattle.nc_yang_scopes.proofs.laws.one_scoping.Goals as goal

pub returns : goal.returns
returns c = scopings.one_scoping
