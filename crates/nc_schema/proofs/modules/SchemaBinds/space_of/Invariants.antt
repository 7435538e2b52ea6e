-- No module so far has the name.
use Rattle.std.proofs.Common.{◌≡◌, map, drop}
use Rattle.nc_names.specs.Bindings.{space_of}
use Rattle.nc_names.specs.declared.name.Bound.{Bound}
use Rattle.nc_names.specs.declared.name.Module.{Module}
use Rattle.nc_schema.specs.Bindings.{module_bounds}
use Rattle.nc_schema.proofs.modules.SchemaBinds.space_of.Given as goal

abbrev bound_of : Module → Bound
bound_of found = record { prefix = found.name; space = found.space }

abbrev pub invariant-loop-found : goal.invariant-loop-found
invariant-loop-found l =
    space_of l.prefix (module_bounds l.self) ≡ space_of l.prefix (map bound_of (drop l.found-index l.found-items))
