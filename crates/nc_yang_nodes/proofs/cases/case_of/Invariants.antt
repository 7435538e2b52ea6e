use Rattle.std.proofs.Common.{◌≡◌, ◌≤◌}
use Rattle.std.specs.Prelude.{Some, slice_get}
use Rattle.nc_yang_scopes.specs.Scopes.{Located}
use Rattle.nc_yang_nodes.specs.Cases.{case_of, has_name, is_there}
use Rattle.nc_yang_nodes.specs.FeaturesOn.{is_on}
use Rattle.nc_yang_nodes.specs.Roles.{children}
use Rattle.nc_yang_nodes.proofs.Seeing.{from}
use Rattle.nc_yang_nodes.proofs.cases.case_of.Given as goal

abbrev pub invariant-loop-place : goal.invariant-loop-place
invariant-loop-place l = record {
  few : l.count ≤ l.place;
  same : (here : Located) → slice_get l.scopes.located l.choice ≡ Some here
      → from (is_there l.scopes.texts (is_on l.features)) (has_name l.word) l.count l.place (children here)
      ≡ case_of l.scopes.texts (is_on l.features) l.word here;
}
