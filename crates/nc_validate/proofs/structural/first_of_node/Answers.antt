use Rattle.std.proofs.Common.{sym}
use Rattle.nc_defaults.specs.Within.{place_here}
use Rattle.nc_schema.specs.Places.{Place}
use Rattle.nc_validate.proofs.ChoiceLemmas.{child_found, no_child}
use Rattle.nc_validate.proofs.structural.first_of_node.Goals as goal

pub returns-in_ok-found-in-Some : goal.returns-in_ok-found-in-Some
returns-in_ok-found-in-Some c =
    let args = c.args in
    let place : Place = place_here args.config.now args.steps.now args.here in
    child_found args.outline.now.schema.now place args.number c.in-Some.node.now _ (sym c.in-Some.ensures) c.in_ok-found-in-Some.ensures

pub returns-in-None : goal.returns-in-None
returns-in-None c =
    let args = c.args in
    let place : Place = place_here args.config.now args.steps.now args.here in
    no_child args.outline.now.schema.now place args.number (sym c.in-None.ensures)
