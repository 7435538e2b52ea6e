use Rattle.std.proofs.Common.{◌≡◌, ◌++◌, ◌∷◌, [], take}
use Rattle.std.specs.Prelude.{map}
use Rattle.nc_validate.specs.inner.Tuples.{all_texts, texts}
use Rattle.nc_validate.proofs.tuples.with_each.Given as goal

abbrev pub invariant-loop-value : goal.invariant-loop-value
invariant-loop-value l = all_texts l.out ≡ all_texts l.fn.out ++ map (λ value. texts l.tuple ++ value ∷ []) (texts (take l.value-index l.values))
