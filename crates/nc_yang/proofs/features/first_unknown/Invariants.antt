use Rattle.std.proofs.Common.{◌≡◌, true, take}
use Rattle.std.specs.List.{All}
use Rattle.nc_yang.specs.Features as words
use Rattle.nc_yang.proofs.features.first_unknown.Given as goal

abbrev pub invariant-loop-place : goal.invariant-loop-place
invariant-loop-place l = All (λ line. words.is_feature l.scopes.texts line ≡ true) (take l.place l.lines)
