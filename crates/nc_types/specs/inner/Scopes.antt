-- The bindings with which a text is read.
use Rattle.std.specs.Prelude.{Bool, List, if◌then◌else◌}
use Rattle.nc_names.specs.declared.name.Bound.{Bound}
use Rattle.nc_schema.specs.Bindings.{module_bounds}
use Rattle.nc_types.specs.declared.scope.Scope.{Scope}
use Rattle.nc_types.specs.declared.scope.Scope.TheVariants.{Given, Names}

-- the bindings that are given, or the names of the modules
abbrev pub scoped : {B : Type 0} → (B → List Bound) → Scope B → List Bound
scoped bound (Given bounds) = bound bounds.now
scoped bound (Names schema) = module_bounds schema.now

-- the names of the modules, or the bindings that were given
abbrev pub under : (by_names : Bool) → (names given : List Bound) → List Bound
under by_names names given = if by_names then names else given
