use Rattle.std.proofs.Common.{◌∙◌, [], refl}
use Rattle.nc_branches.specs.Orders.{orders_of}
use Rattle.nc_tree.proofs.OrdersLemmas.{among_is}
use Rattle.nc_tree.proofs.config.laid_in.Goals as goal

pub returns-in-Some : goal.returns-in-Some
returns-in-Some c =
    let args = c.args in
    let laid = rw c.in-Some.is at c.in_ok-lay.ensures.tree in
    laid ∙ among_is args.schema.now args.tree.now.rows args.path.now args.place.now args.block.now.rows (orders_of args.schema.now args.tree.now.rows args.place.now [] args.path.now.steps) refl
