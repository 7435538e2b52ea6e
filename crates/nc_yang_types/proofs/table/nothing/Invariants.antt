use Rattle.std.proofs.Common.{◌≡◌}
use Rattle.std.specs.Prelude.{replicate}
use Rattle.nc_yang_types.specs.declared.planned.Finding.TheVariants.{Nothing}
use Rattle.nc_yang_types.proofs.table.nothing.Given as goal

abbrev pub invariant-loop-number : goal.invariant-loop-number
invariant-loop-number l = l.findings ≡ replicate l.number Nothing
