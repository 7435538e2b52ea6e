use Rattle.std.proofs.Common.{take}
use Rattle.nc_changes.specs.inner.Asked.{AddsAsked}
use Rattle.nc_changes.specs.inner.Common.{rows_of}
use Rattle.nc_changes.proofs.asked.push_asked.Given as goal

abbrev pub invariant-loop-row : goal.invariant-loop-row
invariant-loop-row l = AddsAsked l.schema l.fn.highest (rows_of (take l.row-index l.rows)) (rows_of l.fn.asked) (rows_of l.asked) l.highest
