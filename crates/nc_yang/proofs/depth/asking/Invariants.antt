use Rattle.std.proofs.Common.{◌≡◌, map, take}
use Rattle.std.specs.List.{list_any}
use Rattle.nc_yang.specs.Depths.{asked_of}
use Rattle.nc_yang.specs.inner.Marked.{is_marked}
use Rattle.nc_yang.proofs.depth.asking.Given as goal

abbrev pub invariant-loop-found : goal.invariant-loop-found
invariant-loop-found l = l.out ≡ map (λ found. list_any (is_marked l.marks) (asked_of l.schema found)) (take l.found-index l.types)
