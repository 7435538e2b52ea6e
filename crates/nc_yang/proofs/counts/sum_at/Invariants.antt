use Rattle.std.proofs.Common.{◌≡◌, min, take}
use Rattle.std.specs.List.{sum_by}
use Rattle.nc_yang.specs.inner.Marked.{count_at}
use Rattle.nc_yang.proofs.counts.sum_at.Given as goal

abbrev pub invariant-loop-member : goal.invariant-loop-member
invariant-loop-member l = l.sum ≡ min (sum_by (count_at l.counts) (take l.member-index l.members)) 4097
