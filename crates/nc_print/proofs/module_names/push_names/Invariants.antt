use Rattle.std.proofs.Common.{◌≡◌, length}
use Rattle.nc_protocol.specs.ModuleNames as names
use Rattle.nc_print.proofs.module_names.push_names.Given as goal

abbrev pub invariant-loop-end : goal.invariant-loop-end
invariant-loop-end l = names.with_names l.schema l.bounds l.rest ≡ names.with_names l.schema l.initial.bounds l.text

abbrev pub decreases-loop-end : goal.decreases-loop-end
decreases-loop-end l = length l.rest
