use Rattle.std.proofs.Common.{ap}
use Rattle.nc_changes.specs.inner.Common.{rows_of}
use Rattle.nc_changes.proofs.AskedLemmas.{all_asked}
use Rattle.nc_changes.proofs.asked.rows_rising.Goals as goal

pub returns : goal.returns
returns c =
    all_asked c.args.schema.now (rows_of c.args.above.now) (rows_of c.args.gone.now) (rows_of c.args.come.now) (rows_of c.args.below.now)
    (rows_of c.new-asked.result) (rows_of c.push_asked.new.asked) (rows_of c.push_all.new.asked) (rows_of c.push_asked-2.new.asked)
    c.in_ok-highest.highest.now c.highest_of-highest.result.now c.in_ok-push_asked.field-0.now (ap rows_of c.new-asked.ensures)
    c.in_ok-highest.ensures c.highest_of-highest.ensures c.in_ok-push_all.ensures c.in_ok-push_asked.ensures
