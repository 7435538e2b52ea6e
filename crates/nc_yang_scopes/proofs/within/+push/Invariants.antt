use Rattle.std.proofs.Common.{◌≡◌, Some, slice_get}
use Rattle.nc_yang_scopes.specs.Scopes.{Located}
use Rattle.nc_yang_scopes.specs.inner.Links.{AddsSome}
use Rattle.nc_yang_scopes.proofs.within.+push.Given as goal

abbrev pub invariant-loop-place : goal.invariant-loop-place
invariant-loop-place l = (here : Located) → slice_get l.scopes.located l.number ≡ Some here → AddsSome l.scopes here l.place l.fn.numbers l.numbers
