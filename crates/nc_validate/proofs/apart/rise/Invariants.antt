use Rattle.std.proofs.Common.{◌≡◌, drop}
use Rattle.std.specs.Prelude.{None}
use Rattle.std.specs.Option.{option_copied}
use Rattle.nc_validate.specs.inner.Apart.{rise_from}
use Rattle.nc_validate.specs.inner.Tuples.{texts}
use Rattle.nc_validate.proofs.apart.rise.Given as goal

abbrev pub invariant-loop-value : goal.invariant-loop-value
invariant-loop-value l = rise_from (option_copied l.last) (texts (drop l.value-index l.values)) ≡ rise_from None (texts l.values)
