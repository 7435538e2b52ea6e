use Rattle.std.proofs.Common.{◌≡◌, take}
use Rattle.nc_filter.proofs.entry.copied.Given as goal

abbrev pub invariant-loop-key : goal.invariant-loop-key
invariant-loop-key l = l.out ≡ take l.key-index l.keys
