use Rattle.std.proofs.Common.{◌≡◌, map, take}
use Rattle.nc_defaults.proofs.values.defaults_of.Given as goal

abbrev pub invariant-loop-default : goal.invariant-loop-default
invariant-loop-default l = map (λ text. text.now) l.out ≡ take l.default-index l.default-items
