use Rattle.std.proofs.Common.{◌≡◌, ◌++◌, ◌∷◌, take}
use Rattle.std.specs.List.{flat_map}
use Rattle.nc_session.proofs.server_hello.push_features.Given as goal

-- the features so far, each after a comma
abbrev pub invariant-loop-feature : goal.invariant-loop-feature
invariant-loop-feature l = l.out ≡ l.initial.out ++ flat_map (λ g. 44 ∷ g) (take l.feature-index l.others)
