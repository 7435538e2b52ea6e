use Rattle.std.proofs.Common.{◌∙◌, sym, []}
use Rattle.std.specs.Option.{option_map_or}
use Rattle.nc_branches.specs.inner.Shoots.{rows_of}
use Rattle.nc_branches.proofs.Exchanging.{gone_exchanged}
use Rattle.nc_branches.proofs.tree.Tree.without_entry.Goals as goal

pub returns : goal.returns
returns c =
    let exchanges = rw c.in-Some-2.is at c.in_ok-with_node.ensures in
    gone_exchanged c.args.known.now.rows c.args.steps.now c.entry_in-path.result.now c.args.self.now.rows (option_map_or rows_of c.in_ok-node.node []) c.in-Some-2.tree.rows c.in-Some.twig.now
    c.entry_in-path.ensures c.in-Some.ensures c.requires (sym c.is_entry.ensures ∙ c.if-not-is_entry.false) c.in_ok-node.ensures exchanges
