-- The names after the place where the path turns down.
use Rattle.nc_path_places.specs.inner.Counted.{reading_of}
use Rattle.nc_path_places.specs.inner.Leafrefs.{Down, LeafrefPath}
use Rattle.nc_path_places.proofs.HereLemmas.{err_led, ok_led}
use Rattle.nc_path_places.proofs.leafref_place.whole.Goals as goal

pub returns-clause-ok : goal.returns-clause-ok
returns-clause-ok c =
    let ways = c.args.ways.now in
    let s = reading_of ways.names in
    ok_led (LeafrefPath s c.args.leaf) (Down s ways.own.now c.in_ok-above.above) c.args.text.now c.in_ok-above.rest.now 0 c.names_down.result c.in_ok-above.ensures.ok.leads c.names_down.ensures.ok

pub returns-clause-here : goal.returns-clause-here
returns-clause-here c =
    let ways = c.args.ways.now in
    let s = reading_of ways.names in
    err_led (LeafrefPath s c.args.leaf) (Down s ways.own.now c.in_ok-above.above) c.args.text.now c.in_ok-above.rest.now c.names_down.result c.in_ok-above.ensures.ok.leads c.names_down.ensures.here
