use Rattle.std.proofs.Common.{take}
use Rattle.nc_filter.specs.inner.Runs.{marks_keys}
use Rattle.nc_filter.proofs.table.with_keys.Given as goal

abbrev pub invariant-loop-key : goal.invariant-loop-key
invariant-loop-key l = marks_keys l.fn.items l.items (take l.key-index l.keys) l.number
