use Rattle.std.proofs.Common.{take}
use Rattle.nc_filter.specs.inner.Runs.{adds_keys}
use Rattle.nc_filter.proofs.slots.with_keys.Given as goal

abbrev pub invariant-loop-key : goal.invariant-loop-key
invariant-loop-key l = adds_keys l.fn.items l.items (take l.key-index l.keys) l.number
