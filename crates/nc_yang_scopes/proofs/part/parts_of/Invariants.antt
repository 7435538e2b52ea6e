use Rattle.std.proofs.Common.{◌≡◌, map, take}
use Rattle.std.specs.Prelude.{Some, filter, slice_get}
use Rattle.nc_yang_statements.specs.Keywords.{is_same_keyword}
use Rattle.nc_yang_statements.specs.Statements.{kind}
use Rattle.nc_yang_scopes.specs.Scopes.{Located}
use Rattle.nc_yang_scopes.specs.Parts.{in_it}
use Rattle.nc_yang_scopes.specs.Numbers.{AreNumbers}
use Rattle.nc_yang_scopes.proofs.part.parts_of.Given as goal

abbrev pub invariant-loop-place : goal.invariant-loop-place
invariant-loop-place l =
    (here : Located) → slice_get l.scopes.located l.number ≡ Some here
    → AreNumbers l.scopes.located l.found (map (in_it here) (filter (λ s. is_same_keyword l.keyword (kind s)) (take l.place l.among)))
