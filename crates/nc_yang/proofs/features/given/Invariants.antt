use Rattle.std.proofs.Common.{◌≡◌, ℕ, List, take}
use Rattle.nc_yang_nodes.specs.FeaturesOn.{is_on}
use Rattle.nc_yang.specs.Features as words
use Rattle.nc_yang.proofs.features.given.Given as goal

abbrev pub invariant-loop-line : goal.invariant-loop-line
invariant-loop-line l =
    (text : ℕ) (feature : List ℕ) → is_on l.features text feature ≡ words.is_given l.scopes.texts (take l.line-index l.lines) text feature
