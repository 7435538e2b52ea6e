use Rattle.std.proofs.Common.{refl, ◌∙◌, []}
use Rattle.std.specs.Option.{option_map_or}
use Rattle.nc_branches.specs.inner.Shoots.{rows_of}
use Rattle.nc_branches.specs.Orders.{orders_of}
use Rattle.nc_branches.specs.Sides.{among}
use Rattle.nc_branches.proofs.Laying.{laid_moved}
use Rattle.nc_branches.proofs.Moving.{among_without}
use Rattle.nc_branches.proofs.Tallying.{tallied_rest}
use Rattle.nc_branches.proofs.tree.Tree.lay_at.Goals as goal

pub lay_by-requires-clause-turned : goal.lay_by-requires-clause-turned
lay_by-requires-clause-turned c =
    let args = c.args in
    let rest = c.requires.rest in
    let berth = c.requires.berth in
    laid_moved _ _ refl refl rest
    (tallied_rest args.steps.now args.known.now.rows args.self.now.rows args.berth.now.rest.rows rest c.requires.tallied)
    berth.depth berth.step berth.last berth.goes berth.turn_is (c.as_slice.ensures ∙ berth.beside_is)

pub returns-in-Some-2-clause-tree : goal.returns-in-Some-2-clause-tree
returns-in-Some-2-clause-tree c =
    let args = c.args in
    let orders = orders_of args.schema.now args.self.now.rows args.place.now [] args.steps.now in
    let inner = rw c.in-Some-2.is at c.in_ok-lay_by.ensures in
    inner
    ∙ (λ i. among args.schema.now orders args.steps.now (c.in_ok-node.ensures i) (c.requires.rest i))
    ∙ among_without args.schema.now orders args.steps.now (option_map_or rows_of args.node []) args.self.now.rows
