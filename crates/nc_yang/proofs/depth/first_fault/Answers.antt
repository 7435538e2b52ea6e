use Rattle.std.proofs.Common.{◌≤◌, length, sym, arith}
use Rattle.nc_yang.proofs.DepthLemmas.{none_at_all, none_more}
use Rattle.nc_yang.proofs.depth.first_fault.Goals as goal

pub loop-number-preserved : goal.loop-number-preserved
loop-number-preserved c = none_more c.args.scopes.now c.args.plan.now c.args.schema.now c.loop-number.number (sym c.in_default.ensures) c.loop-number.invariant

pub returns : goal.returns
returns c =
    let all : length c.args.schema.now.nodes ≤ c.loop-number.number = omega arith in
    none_at_all c.args.scopes.now c.args.plan.now c.args.schema.now c.loop-number.number all c.loop-number.invariant
