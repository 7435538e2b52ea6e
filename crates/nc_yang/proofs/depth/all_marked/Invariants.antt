use Rattle.std.proofs.Common.{◌≡◌, true}
use Rattle.std.specs.Prelude.{replicate}
use Rattle.nc_yang.proofs.depth.all_marked.Given as goal

abbrev pub invariant-loop : goal.invariant-loop
invariant-loop l = l.marks ≡ replicate l.counter true
