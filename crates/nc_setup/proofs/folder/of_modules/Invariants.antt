use Rattle.std.proofs.Common.{◌≡◌}
use Rattle.std.specs.List.{filter}
use Rattle.nc_setup.specs.Folder as meant
use Rattle.nc_setup.proofs.folder.of_modules.Given as goal

abbrev pub invariant-loop-name : goal.invariant-loop-name
invariant-loop-name l = l.kept ≡ filter meant.is_module_name l.yielded
