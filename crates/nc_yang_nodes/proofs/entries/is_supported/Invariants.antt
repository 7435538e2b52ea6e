use Rattle.std.proofs.Common.{◌≡◌, drop}
use Rattle.std.specs.Prelude.{Some, slice_get}
use Rattle.std.specs.List.{list_all}
use Rattle.nc_yang_scopes.specs.Scopes.{Located}
use Rattle.nc_yang_nodes.specs.FeaturesOn.{is_on}
use Rattle.nc_yang_nodes.specs.Roles.{children, is_supported}
use Rattle.nc_yang_nodes.specs.inner.Tables.{allows}
use Rattle.nc_yang_nodes.proofs.entries.is_supported.Given as goal

abbrev pub invariant-loop-place : goal.invariant-loop-place
invariant-loop-place l =
    (here : Located) → slice_get l.scopes.located l.number ≡ Some here
    → list_all (allows l.scopes.texts (is_on l.features)) (drop l.place (children here)) ≡ is_supported l.scopes.texts (is_on l.features) here
