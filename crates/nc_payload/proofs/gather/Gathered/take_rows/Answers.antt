use Rattle.std.proofs.Common.{subst}
use Rattle.std.proofs.lemmas.List.{take_all}
use Rattle.nc_payload.specs.inner.Gathered.{TakesRows}
use Rattle.nc_payload.proofs.GatherLemmas.{rows_more}
use Rattle.nc_payload.proofs.gather.Gathered.take_rows.Goals as goal

pub loop-row-preserved : goal.loop-row-preserved
loop-row-preserved c =
    rows_more c.args.plan.now.schema.now c.args.plan.now.turns c.args.self.now c.loop-row.self c.take_row.new.self c.args.block.now c.loop-row.row-index c.row-item.result
    c.loop-row-test.true c.row-item.is (c.in_ok-take_row.ensures c.if-not-branch.false) c.loop-row.invariant

pub returns : goal.returns
returns c = λ taken.
    subst (λ block. TakesRows c.args.plan.now.schema.now c.args.plan.now.turns c.args.self.now block c.loop-row.self)
    (take_all c.loop-row.row-index c.args.block.now c.loop-row-test.false) c.loop-row.invariant
