use Rattle.std.proofs.Common.{take}
use Rattle.nc_payload.specs.inner.Gathered.{TakesRows}
use Rattle.nc_payload.proofs.gather.Gathered.take_rows.Given as goal

abbrev pub invariant-loop-row : goal.invariant-loop-row
invariant-loop-row l = TakesRows l.plan.schema.now l.plan.turns l.fn.self (take l.row-index l.block) l.self
