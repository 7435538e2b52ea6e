use Rattle.std.proofs.Common.{◌∙◌, sym}
use Rattle.nc_payload.specs.inner.Gathered.{Climbs, row_marks}
use Rattle.nc_payload.proofs.GatherLemmas.{climb_more}
use Rattle.nc_payload.proofs.gather.climb.Goals as goal

pub loop-row-preserved : goal.loop-row-preserved
loop-row-preserved c =
    let plan = c.args.plan.now in
    climb_more plan.schema.now plan.turns (Climbs plan.schema.now plan.turns (row_marks plan.schema.now plan.turns c.args.first.now) c.args.rest.now) c.loop-row.last c.in_ok-marks.marks c.args.rest.now c.loop-row.row-index c.row-item.result
    c.loop-row-test.true c.row-item.is c.in_ok-marks.ensures (sym c.comes_before.ensures ∙ c.if-not-comes_before.false) c.loop-row.invariant
