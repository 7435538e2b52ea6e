use Rattle.std.proofs.Common.{◌≡◌, drop}
use Rattle.std.specs.List.{list_any}
use Rattle.nc_yang.specs.inner.Marked.{is_marked}
use Rattle.nc_yang.proofs.depth.has_marked.Given as goal

abbrev pub invariant-loop-member : goal.invariant-loop-member
invariant-loop-member l = list_any (is_marked l.marks) l.members ≡ list_any (is_marked l.marks) (drop l.member-index l.members)
