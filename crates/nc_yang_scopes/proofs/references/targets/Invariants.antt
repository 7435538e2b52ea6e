use Rattle.std.proofs.Common.{◌≡◌, map, take}
use Rattle.nc_yang_scopes.specs.References.{target_of}
use Rattle.nc_yang_scopes.proofs.references.targets.Given as goal

abbrev pub invariant-loop-link : goal.invariant-loop-link
invariant-loop-link l = l.targets ≡ map target_of (take l.link-index l.links)
