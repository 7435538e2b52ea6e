-- The names of the identities of the numbers before.
use Rattle.std.proofs.Common.{◌≡◌, map, take}
use Rattle.std.specs.Prelude.{Some}
use Rattle.nc_yang.specs.inner.Names.{name_at}
use Rattle.nc_yang.proofs.names.names_of.Given as goal

abbrev pub invariant-loop-number : goal.invariant-loop-number
invariant-loop-number l = map Some l.names ≡ map (name_at l.scopes) (take l.number-index l.numbers)
