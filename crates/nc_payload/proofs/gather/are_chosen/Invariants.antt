use Rattle.std.proofs.Common.{take}
use Rattle.nc_payload.specs.inner.Gathered.{AreChosen}
use Rattle.nc_payload.proofs.gather.are_chosen.Given as goal

abbrev pub invariant-loop-case : goal.invariant-loop-case
invariant-loop-case l = AreChosen l.turns l.above (take l.case-index l.case-items)
