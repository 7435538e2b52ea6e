use Rattle.nc_filter.proofs.GroupLemmas.{wants_done, wants_more}
use Rattle.nc_filter.proofs.reach.groups.Goals as goal

pub loop-want-preserved : goal.loop-want-preserved
loop-want-preserved c = λ keys_are.
    wants_more c.args.runs.now c.args.upper c.args.wants.now c.loop-want.want-index c.want-item.result c.loop-want.out c.in_ok-out.out c.loop-want-test.true c.want-item.is
    (c.in_ok-out.ensures keys_are c.in_ok-below.ensures) (c.loop-want.invariant keys_are)

pub returns : goal.returns
returns c = λ keys_are.
    wants_done c.args.runs.now c.args.upper c.args.wants.now c.loop-want.want-index c.loop-want.out c.in_ok-found.found c.loop-want-test.false (c.loop-want.invariant keys_are)
    c.in_ok-found.ensures
