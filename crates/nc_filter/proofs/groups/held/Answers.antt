use Rattle.std.proofs.Common.{get_or, refl}
use Rattle.nc_filter.specs.inner.Runs.{is_held}
use Rattle.nc_filter.proofs.MemberLemmas.{of_more}
use Rattle.nc_filter.proofs.groups.held.Goals as goal

pub loop-number-preserved : goal.loop-number-preserved
loop-number-preserved c =
    of_more (is_held c.args.keys.now c.args.runs.now c.args.from.now) c.args.some.now c.loop-number.out c.in_ok-out.out c.loop-number.number-index
    (get_or c.args.some.now c.loop-number.number-index 0) 0 c.is_held.result c.loop-number-test.true refl c.is_held.ensures c.in_ok-out.ensures c.loop-number.invariant
