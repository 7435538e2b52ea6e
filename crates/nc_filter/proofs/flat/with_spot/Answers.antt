use Rattle.std.specs.Prelude.{map}
use Rattle.nc_filter.proofs.SpotLemmas.{spot_past, spot_there}
use Rattle.nc_filter.proofs.flat.with_spot.Goals as goal

pub returns-in_ok-push_if-in-Some : goal.returns-in_ok-push_if-in-Some
returns-in_ok-push_if-in-Some c =
    spot_there c.args.spots.now c.args.set.now c.args.number c.in-Some.spot.now c.is_set.result (map (λ row. row.now) c.args.out) (map (λ row. row.now) c.in_ok-push_if-in-Some.field-0)
    c.in-Some.ensures.lookup.3.0 c.in-Some.ensures.lookup.1 c.is_set.ensures c.in_ok-push_if-in-Some.ensures

pub returns-in-None : goal.returns-in-None
returns-in-None c = spot_past c.args.spots.now c.args.set.now c.args.number (map (λ row. row.now) c.args.out) c.in-None.ensures.lookup.3
