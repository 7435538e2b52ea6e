-- The prefixes of the imports before.
use Rattle.std.proofs.Common.{◌≡◌, ◌++◌, take}
use Rattle.nc_yang_scopes.specs.Prefixes.{import_bounds}
use Rattle.nc_yang_data.proofs.bounds.push_imports.Given as goal

abbrev pub invariant-loop-statement : goal.invariant-loop-statement
invariant-loop-statement l = l.found ≡ l.fn.found ++ import_bounds l.scopes.texts (take l.statement-index l.among)
