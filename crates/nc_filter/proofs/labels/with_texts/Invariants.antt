use Rattle.std.proofs.Common.{◌≡◌, ◌++◌, ◌∷◌, drop}
use Rattle.std.specs.Prelude.{map}
use Rattle.nc_filter.proofs.labels.with_texts.Given as goal

abbrev pub invariant-loop-key : goal.invariant-loop-key
invariant-loop-key l = l.out ++ map (λ key. 1 ∷ key) (drop l.key-index l.keys) ≡ l.fn.out ++ map (λ key. 1 ∷ key) l.keys
