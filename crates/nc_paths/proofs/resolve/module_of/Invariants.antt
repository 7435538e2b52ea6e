-- No module so far has the namespace.
use Rattle.std.proofs.Common.{◌≡◌, drop}
use Rattle.std.specs.List.{find}
use Rattle.nc_names.specs.Same.{is_same_text}
use Rattle.nc_names.specs.declared.name.Module.{Module}
use Rattle.nc_paths.proofs.resolve.module_of.Given as goal

abbrev pub invariant-loop-found : goal.invariant-loop-found
invariant-loop-found l =
    find (λ (found : Module). is_same_text found.space l.space) l.found-items ≡ find (λ (found : Module). is_same_text found.space l.space) (drop l.found-index l.found-items)
