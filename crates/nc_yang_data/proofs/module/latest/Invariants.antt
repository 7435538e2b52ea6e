-- The same date from here.
use Rattle.std.proofs.Common.{◌≡◌, [], drop}
use Rattle.std.specs.Prelude.{IsUtf8}
use Rattle.nc_yang_data.specs.Modules as modules
use Rattle.nc_yang_data.proofs.module.latest.Given as goal

abbrev pub invariant-loop-statement : goal.invariant-loop-statement
invariant-loop-statement l =
    (modules.latest [] l.among ≡ modules.latest l.date (drop l.statement-index l.among)) × IsUtf8 l.date
