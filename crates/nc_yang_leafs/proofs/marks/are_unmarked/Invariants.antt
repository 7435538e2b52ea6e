use Rattle.std.proofs.Common.{◌≡◌, drop}
use Rattle.nc_yang_leafs.specs.Marks.{are_unmarked}
use Rattle.nc_yang_leafs.proofs.marks.are_unmarked.Given as goal

abbrev pub invariant-loop-member : goal.invariant-loop-member
invariant-loop-member l =
    are_unmarked l.meanings.findings l.marks l.members ≡ are_unmarked l.meanings.findings l.marks (drop l.member-index l.members)
