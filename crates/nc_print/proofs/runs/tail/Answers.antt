use Rattle.nc_print.proofs.RunLemmas.{tail_is}
use Rattle.nc_print.proofs.runs.tail.Goals as goal

pub returns : goal.returns
returns c = tail_is (λ row. row.now) c.args.count c.args.rows.now
