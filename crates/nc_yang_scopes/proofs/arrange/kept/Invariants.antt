use Rattle.std.proofs.Common.{◌≡◌, take}
use Rattle.std.specs.List.{filter}
use Rattle.nc_yang_scopes.specs.inner.Links.{is_marked}
use Rattle.nc_yang_scopes.proofs.arrange.kept.Given as goal

abbrev pub invariant-loop-number : goal.invariant-loop-number
invariant-loop-number l = l.kept ≡ filter (is_marked l.marks) (take l.number-index l.numbers)
