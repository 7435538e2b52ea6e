use Rattle.std.proofs.Common.{◌∙◌, ◌||◌, ap}
use Rattle.std.specs.Prelude.{map}
use Rattle.std.specs.List.{list_any}
use Rattle.nc_filter.proofs.SpotLemmas.{held_past, held_put}
use Rattle.nc_filter.proofs.spots.push_held.Goals as goal

pub returns-then-is_set : goal.returns-then-is_set
returns-then-is_set c =
    held_put c.args.held.now c.args.number c.args.spots c.in_ok-more.more (map (λ row. row.now) c.args.run.now.rows) c.is_set.result c.is_set.ensures c.if-is_set.true
    (λ f. c.in_ok-more.ensures f
    ∙ ap (λ rows. list_any (λ spot. f spot.number spot.row.now) c.args.spots || list_any (f c.args.number) (map (λ row. row.now) rows)) c.as_slice.ensures)

pub returns : goal.returns
returns c = held_past c.args.held.now c.args.number c.args.spots (map (λ row. row.now) c.args.run.now.rows) c.is_set.result c.is_set.ensures c.if-is_set.false
