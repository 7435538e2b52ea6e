use Rattle.std.proofs.Common.{◌≡◌, false, take}
use Rattle.std.specs.BTreeSet.{contains}
use Rattle.std.specs.List.{list_any}
use Rattle.nc_validate.specs.inner.Tuples.{order}
use Rattle.nc_validate.proofs.unique.has_any.Given as goal

abbrev pub invariant-loop-tuple : goal.invariant-loop-tuple
invariant-loop-tuple l = list_any (λ tuple. contains order l.seen tuple) (take l.tuple-index l.tuples) ≡ false
