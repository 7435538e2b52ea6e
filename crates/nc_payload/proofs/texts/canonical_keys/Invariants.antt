use Rattle.std.proofs.Common.{◌≡◌, ◌++◌, drop}
use Rattle.std.specs.Prelude.{option_map}
use Rattle.nc_schema.specs.Values.{canonical, canonical_keys}
use Rattle.nc_payload.proofs.texts.canonical_keys.Given as goal

abbrev pub invariant-loop-node : goal.invariant-loop-node
invariant-loop-node l =
    option_map (λ more. l.out ++ more) (canonical_keys (λ key value. canonical l.schema key value l.bounds) (drop l.node-index l.nodes) l.rest)
    ≡ canonical_keys (λ key value. canonical l.schema key value l.bounds) l.nodes l.keys
