use Rattle.std.proofs.Common.{◌≡◌, ◌++◌, drop}
use Rattle.nc_filter.proofs.wants.with_copies.Given as goal

abbrev pub invariant-loop-key : goal.invariant-loop-key
invariant-loop-key l = l.out ++ drop l.key-index l.keys ≡ l.fn.out ++ l.keys
