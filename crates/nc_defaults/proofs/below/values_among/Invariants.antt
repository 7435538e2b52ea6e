-- The values of the places so far.
use Rattle.std.proofs.Common.{◌≡◌, take}
use Rattle.nc_defaults.specs.Within.{places_in}
use Rattle.nc_defaults.specs.inner.Below.{texts, values_among}
use Rattle.nc_defaults.proofs.below.values_among.Given as goal

abbrev pub invariant-loop-spot : goal.invariant-loop-spot
invariant-loop-spot l = texts l.out ≡ values_among l.children l.number (places_in l.config (take l.spot-index l.spots))
