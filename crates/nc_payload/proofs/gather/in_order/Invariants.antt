use Rattle.std.proofs.Common.{take, []}
use Rattle.std.specs.Prelude.{fold}
use Rattle.nc_protocol.specs.Edited.{left_by}
use Rattle.nc_payload.specs.inner.Gathered.{Holds}
use Rattle.nc_payload.proofs.gather.in_order.Given as goal

abbrev pub invariant-loop-merge : goal.invariant-loop-merge
invariant-loop-merge l = Holds l.schema l.plan.turns l.gathered (fold (left_by l.schema) [] (take l.merge-index l.merge-items))
