use Rattle.std.proofs.Common.{◌≡◌, ◌∙◌, [], ap, sym, subst}
use Rattle.nc_defaults.specs.Sought.{AreUpward, sought}
use Rattle.nc_defaults.specs.Within.{place_here, places_in}
use Rattle.nc_schema.specs.Places.{Place, places_from}
use Rattle.nc_schema.specs.Tables.{Tables}
use Rattle.nc_validate.specs.inner.Asked.{Covers}
use Rattle.nc_validate.proofs.AskedLemmas.{all_listed, same_broken, upward_is}
use Rattle.nc_validate.proofs.asked.spots_asked.Goals as goal

pub places_sought-requires-clause-marks : goal.places_sought-requires-clause-marks
places_sought-requires-clause-marks c =
    let tables : Tables = c.args.outline.now.schema.now in
    let marks = c.as_slice-sought.result.now in
    let covers : Covers tables marks = c.covers.ensures c.if-not-covers.false in
    subst (λ (ts : Tables). AreUpward ts.nodes marks) (sym c.requires.children) (upward_is tables marks covers)

pub returns-then-not-covers-clause-broken : goal.returns-then-not-covers-clause-broken
returns-then-not-covers-clause-broken c =
    let args = c.args in
    all_listed args.outline.now.schema.now args.outline.now.children args.config.now c.in_ok-all.all (place_here args.config.now [] c.top-here.result)
    c.in_ok-all.ensures.places c.requires.children c.top-here.ensures.place

pub returns-clause-broken : goal.returns-clause-broken
returns-clause-broken c =
    let args = c.args in
    let tables : Tables = args.outline.now.schema.now in
    let rows = args.config.now in
    let marks = c.as_slice-sought.result.now in
    let covers : Covers tables marks = c.covers.ensures c.if-not-covers.false in
    let place : Place = place_here rows [] c.top-here.result in
    let same : sought marks (places_in rows c.in_ok-spots.spots) ≡ sought marks (places_from tables place) =
    c.in_ok-spots.ensures.places ∙ ap (λ (ts : Tables). sought marks (places_from ts place)) c.requires.children in
    same_broken tables marks covers rows c.in_ok-spots.spots place same c.top-here.ensures.place
