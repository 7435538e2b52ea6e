use Rattle.std.proofs.Common.{◌≡◌, ◌++◌, map, take}
use Rattle.nc_protocol.specs.Content as content
use Rattle.nc_protocol.specs.Reply as reply
use Rattle.nc_protocol.specs.Words as w
use Rattle.nc_errors.proofs.replies.push_nodes.Given as goal

abbrev pub invariant-loop-node : goal.invariant-loop-node
invariant-loop-node l =
    l.parts
    ≡ l.initial.parts ++ map (reply.path_part l.schema (content.partial_lock_name w.locked_node_word)) (take l.node-index l.nodes)
