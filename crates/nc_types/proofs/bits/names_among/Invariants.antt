-- The names so far, and those of the rest.
use Rattle.std.proofs.Common.{◌≡◌, ◌++◌, drop}
use Rattle.std.specs.List.{filter}
use Rattle.nc_types.specs.inner.Asked.{has}
use Rattle.nc_types.proofs.bits.names_among.Given as goal

abbrev pub invariant-loop-name : goal.invariant-loop-name
invariant-loop-name l = filter (has l.words) l.names ≡ l.out ++ filter (has l.words) (drop l.name-index l.names)
