-- The bindings so far.
use Rattle.std.proofs.Common.{◌≡◌, map, take}
use Rattle.nc_names.specs.declared.name.Bound.{Bound}
use Rattle.nc_names.specs.declared.name.Module.{Module}
use Rattle.nc_schema.proofs.modules.SchemaBinds.to_many.Given as goal

abbrev bound_of : Module → Bound
bound_of found = record { prefix = found.name; space = found.space }

abbrev pub invariant-loop-found : goal.invariant-loop-found
invariant-loop-found l = l.bounds ≡ map bound_of (take l.found-index l.found-items)
