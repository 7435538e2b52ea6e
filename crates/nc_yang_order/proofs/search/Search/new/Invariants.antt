use Rattle.std.proofs.Common.{◌≡◌}
use Rattle.std.specs.Prelude.{replicate}
use Rattle.nc_yang_order.specs.declared.mark.Mark.TheVariants.{Unseen}
use Rattle.nc_yang_order.proofs.search.Search.new.Given as goal

abbrev pub invariant-loop-i : goal.invariant-loop-i
invariant-loop-i l = l.marks ≡ replicate l.i Unseen
