use Rattle.nc_yang.proofs.JudgedLemmas.{typedefs_there}
use Rattle.nc_yang.proofs.typedefs.typedefs_in.Goals as goal

pub returns-in-Some : goal.returns-in-Some
returns-in-Some c = typedefs_there c.args.scopes.now c.args.text c.in-Some.root c.requires c.in-Some.ensures c.typedefs_at.result c.typedefs_at.ensures
