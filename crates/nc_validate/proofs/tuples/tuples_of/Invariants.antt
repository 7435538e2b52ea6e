use Rattle.std.proofs.Common.{◌≡◌, take}
use Rattle.nc_defaults.specs.Within.{place_here}
use Rattle.nc_validate.specs.inner.Tuples.{all_texts, tuples_of}
use Rattle.nc_validate.proofs.tuples.tuples_of.Given as goal

abbrev pub invariant-loop-leaf : goal.invariant-loop-leaf
invariant-loop-leaf l = all_texts l.out ≡ tuples_of l.children (take l.leaf-index l.leafs) (place_here l.config l.entry.steps l.entry.here)
