use Rattle.nc_changes.specs.Apart.{AreApart}
use Rattle.nc_changes.proofs.tops.are_tops_apart.Given as goal

abbrev pub invariant-loop-top : goal.invariant-loop-top
invariant-loop-top l = AreApart l.rest → AreApart l.fn.rest
