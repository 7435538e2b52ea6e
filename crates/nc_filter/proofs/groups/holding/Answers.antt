use Rattle.std.proofs.Common.{get_or, refl}
use Rattle.nc_filter.specs.inner.Runs.{at_number, holds_in}
use Rattle.nc_filter.proofs.MemberLemmas.{holding_listed, of_all, of_more}
use Rattle.nc_filter.proofs.groups.holding.Goals as goal

pub loop-number-preserved : goal.loop-number-preserved
loop-number-preserved c =
    of_more (at_number c.args.runs.now (holds_in c.args.keys.now)) c.args.some.now c.loop-number.out c.in_ok-out.out c.loop-number.number-index
    (get_or c.args.some.now c.loop-number.number-index 0) 0 c.holds_at.result c.loop-number-test.true refl c.holds_at.ensures c.in_ok-out.ensures c.loop-number.invariant

pub returns : goal.returns
returns c = λ here are.
    holding_listed c.args.keys.now c.args.runs.now here c.args.some.now c.loop-number.out
    (of_all (at_number c.args.runs.now (holds_in c.args.keys.now)) c.args.some.now c.loop-number.out c.loop-number.number-index c.loop-number-test.false c.loop-number.invariant) are
