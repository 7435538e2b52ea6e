use Rattle.std.proofs.Common.{◌≡◌, take}
use Rattle.nc_defaults.specs.Within.{places_in}
use Rattle.nc_validate.specs.inner.Apart.{values_in}
use Rattle.nc_validate.specs.inner.Tuples.{texts}
use Rattle.nc_validate.proofs.apart.values_in.Given as goal

abbrev pub invariant-loop-entry : goal.invariant-loop-entry
invariant-loop-entry l = texts l.out ≡ values_in l.children l.leaf (places_in l.config (take l.entry-index l.entries))
