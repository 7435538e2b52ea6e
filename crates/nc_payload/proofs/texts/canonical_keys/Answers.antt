use Rattle.nc_schema.specs.Values.{canonical, canonical_keys}
use Rattle.std.proofs.Common.{drop}
use Rattle.nc_payload.proofs.Naming.{keys_end}
use Rattle.nc_payload.proofs.texts.canonical_keys.Goals as goal

pub returns-in_default : goal.returns-in_default
returns-in_default c =
    keys_end (canonical_keys (λ key value. canonical c.args.schema.now key value c.args.bounds.now) c.args.nodes.now c.args.keys.now)
    (λ key value. canonical c.args.schema.now key value c.args.bounds.now) (drop c.loop-node.node-index c.args.nodes.now) c.loop-node.rest.now c.loop-node.out c.in_default.ensures.cases c.loop-node.invariant
