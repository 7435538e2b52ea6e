use Rattle.nc_refs.proofs.NamedLemmas.{node_added}
use Rattle.nc_refs.proofs.named.with_node.Goals as goal

pub returns : goal.returns
returns c = λ rows all there. node_added c.args.nodes c.insert.new.self c.args.steps rows c.in_ok-insert.ensures.updates.0 all there
