use Rattle.nc_changes.proofs.FoundLemmas.{missing_found}
use Rattle.nc_changes.proofs.differ.is_missing.Goals as goal

pub returns : goal.returns
returns c = missing_found c.args.others.now c.args.row.now c.get.result c.is_none.result c.is_none.ensures c.get.ensures
