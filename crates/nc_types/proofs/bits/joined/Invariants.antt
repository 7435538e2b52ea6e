-- The names so far.
use Rattle.std.proofs.Common.{◌≡◌, take}
use Rattle.std.specs.List.{join_with_byte}
use Rattle.nc_names.specs.Signs.{blank}
use Rattle.nc_types.proofs.bits.joined.Given as goal

abbrev pub invariant-loop-place : goal.invariant-loop-place
invariant-loop-place l = l.out ≡ join_with_byte blank (take l.place l.names)
