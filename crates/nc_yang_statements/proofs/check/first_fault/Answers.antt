use Rattle.nc_yang_statements.proofs.Trees.{judged_root}
use Rattle.nc_yang_statements.proofs.check.first_fault.Goals as goal

pub returns : goal.returns
returns c = judged_root c.args.root.now c.check.result c.in_default.ensures c.check.ensures
