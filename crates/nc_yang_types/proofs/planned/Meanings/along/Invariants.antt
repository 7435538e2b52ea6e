use Rattle.std.proofs.Common.{take}
use Rattle.nc_yang_types.specs.inner.Planning.{AreSoFar}
use Rattle.nc_yang_types.proofs.planned.Meanings.along.Given as goal

abbrev pub invariant-loop-number : goal.invariant-loop-number
invariant-loop-number g l = AreSoFar (g.F.Features.on l.features) l.scopes (take l.number-index l.order) l.meanings
