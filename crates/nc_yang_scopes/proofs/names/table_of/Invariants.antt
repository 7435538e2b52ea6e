use Rattle.std.proofs.Common.{take}
use Rattle.nc_yang_scopes.specs.inner.Frames.{IsTable}
use Rattle.nc_yang_scopes.proofs.names.table_of.Given as goal

abbrev pub invariant-loop-number : goal.invariant-loop-number
invariant-loop-number l = IsTable l.keyword (take l.number l.frames) l.table
