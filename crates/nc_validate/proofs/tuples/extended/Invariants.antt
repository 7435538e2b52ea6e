use Rattle.std.proofs.Common.{◌≡◌, take}
use Rattle.nc_validate.specs.inner.Tuples.{all_texts, extended, texts}
use Rattle.nc_validate.proofs.tuples.extended.Given as goal

abbrev pub invariant-loop-tuple : goal.invariant-loop-tuple
invariant-loop-tuple l = all_texts l.out ≡ extended (all_texts (take l.tuple-index l.tuples)) (texts l.values)
