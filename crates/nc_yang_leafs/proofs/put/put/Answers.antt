use Rattle.std.proofs.Common.{sym}
use Rattle.nc_yang_leafs.proofs.PutLemmas.{put_there}
use Rattle.nc_yang_leafs.proofs.put.put.Goals as goal

pub returns : goal.returns
returns c =
    put_there c.args.schema.now c.set_node.new.self c.args.number c.args.values c.in-Some.node.now c.in_ok-with.with (sym c.in-Some.ensures) c.in_ok-with.ensures c.set_node.ensures
