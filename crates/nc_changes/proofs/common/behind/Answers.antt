use Rattle.nc_changes.proofs.CommonLemmas.{tail_is}
use Rattle.nc_changes.proofs.common.behind.Goals as goal

pub returns : goal.returns
returns c = tail_is (λ row. row.now) c.args.count c.args.rows.now
