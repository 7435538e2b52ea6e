-- The namespaces of the texts before.
use Rattle.std.proofs.Common.{◌≡◌, map, take}
use Rattle.nc_yang_scopes.specs.Prefixes.{namespace_in}
use Rattle.nc_yang_data.proofs.texts.namespaces.Given as goal

abbrev pub invariant-loop-text : goal.invariant-loop-text
invariant-loop-text l = l.spaces ≡ map namespace_in (take l.text l.scopes.texts)
