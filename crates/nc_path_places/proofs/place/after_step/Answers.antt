-- A name, and the predicates.
use Rattle.std.proofs.lemmas.Result.{err_from_is_err_and}
use Rattle.nc_schema.specs.InstancePaths.{key_nodes}
use Rattle.nc_path_places.specs.inner.Counted.{reading_of}
use Rattle.nc_path_places.specs.inner.Going.{Keys, Steps}
use Rattle.nc_path_places.proofs.HereLemmas.{on_led}
use Rattle.nc_path_places.proofs.PlaceLemmas.{step_read}
use Rattle.nc_path_places.proofs.place.after_step.Goals as goal

pub returns-in_err-rest-clause-here : goal.returns-in_err-rest-clause-here
returns-in_err-rest-clause-here c =
    let s = reading_of c.args.names.now in
    let number = c.in_ok-number.number in
    let p = err_from_is_err_and c.from_residual-in_err-rest.result c.from_residual-in_err-rest.ensures.1 in
    rw (p.1, p.2)
    (on_led (Steps s c.args.above) (Keys s number (key_nodes s.tables number)) c.args.text.now c.in_ok-number.behind.now c.in_err-rest.field-0.0 c.in_ok-number.ensures.ok.leads c.in_err-rest.ensures.here)

pub returns-clause-ok : goal.returns-clause-ok
returns-clause-ok c =
    step_read (reading_of c.args.names.now) c.args.above c.args.text.now c.in_ok-number.behind.now c.in_ok-number.number c.in_ok-rest.rest.now c.in_ok-number.ensures.ok c.in_ok-rest.ensures.ok
