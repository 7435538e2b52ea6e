use Rattle.std.proofs.Common.{◌≡◌, map, take}
use Rattle.nc_yang.specs.inner.Marked.{asked_with, count_at}
use Rattle.nc_yang.proofs.counts.counted.Given as goal

abbrev pub invariant-loop-found : goal.invariant-loop-found
invariant-loop-found l = l.out ≡ map (asked_with l.schema (count_at l.counts)) (take l.found-index l.types)
