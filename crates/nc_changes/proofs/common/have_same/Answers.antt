use Rattle.nc_changes.proofs.CommonLemmas.{same_here}
use Rattle.nc_changes.proofs.common.have_same.Goals as goal

pub returns : goal.returns
returns c = λ same.
    same_here c.args.rows.now c.args.others.now c.args.at c.args.place c.in-Some.row.now c.in-Some-get.other.now c.in-Some.ensures.lookup.3.0
    c.in-Some-get.ensures.lookup.3.0 c.in-Some.ensures.lookup.1 c.in-Some-get.ensures.lookup.1 (c.is_same_row.ensures.0 same)
