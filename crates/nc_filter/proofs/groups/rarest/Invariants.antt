use Rattle.std.proofs.Common.{◌≡◌}
use Rattle.nc_filter.proofs.groups.rarest.Given as goal

abbrev pub invariant-loop-key : goal.invariant-loop-key
invariant-loop-key l = l.place ≡ l.key-index
