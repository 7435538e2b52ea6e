-- The typedefs of the statements before, each with those in it.
use Rattle.std.proofs.Common.{◌≡◌, ◌++◌, ◌-◌, Some, map, slice_get, take}
use Rattle.std.specs.List.{flat_map}
use Rattle.nc_yang_statements.specs.Statements.{below}
use Rattle.nc_yang_scopes.specs.Parts.{in_it}
use Rattle.nc_yang_scopes.specs.Scopes.{Located}
use Rattle.nc_yang.specs.Typedefs.{own_typedef, typedefs_within}
use Rattle.nc_yang.specs.inner.Judged.{Adds}
use Rattle.nc_yang.proofs.typedefs.+push.Given as goal

abbrev pub invariant-loop-place : goal.invariant-loop-place
invariant-loop-place l = (here : Located) → slice_get l.scopes.located l.number ≡ Some here →
    Adds l.scopes.located (own_typedef here ++ flat_map (typedefs_within (l.levels - 1)) (take l.place (map (in_it here) (below here.statement)))) l.fn.numbers l.numbers
