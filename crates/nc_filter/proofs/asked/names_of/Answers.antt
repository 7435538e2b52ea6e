use Rattle.nc_filter.proofs.InstanceLemmas.{names_more}
use Rattle.nc_filter.proofs.asked.names_of.Goals as goal

pub loop-want-preserved : goal.loop-want-preserved
loop-want-preserved c =
    names_more c.args.wants.now c.loop-want.want-index c.want-item.result c.as_slice.result.now c.loop-want.names c.in_ok-names.names c.loop-want-test.true c.want-item.is c.as_slice.ensures
    c.in_ok-names.ensures c.loop-want.invariant
