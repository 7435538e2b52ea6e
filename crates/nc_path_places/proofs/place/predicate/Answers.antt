-- One piece after another.
use Rattle.std.proofs.lemmas.Result.{err_from_is_err_and}
use Rattle.nc_path_places.specs.inner.Counted.{reading_of}
use Rattle.nc_path_places.proofs.HereLemmas.{closing_here, equals_here, value_here}
use Rattle.nc_path_places.proofs.PlaceLemmas.{predicate_read}
use Rattle.nc_path_places.proofs.place.predicate.Goals as goal

pub returns-in_err-rest-clause-here : goal.returns-in_err-rest-clause-here
returns-in_err-rest-clause-here c =
    let p = err_from_is_err_and c.from_residual-in_err-rest.result c.from_residual-in_err-rest.ensures.1 in
    rw (p.1, p.2)
    (equals_here (reading_of c.args.names.now) c.args.number c.args.left.now c.requires.given c.args.text.now c.in_ok-key.key c.in_ok-key.rest.now c.in_ok-key.ensures.ok
    c.in_err-rest.field-0.0 c.in_err-rest.ensures.here)

pub returns-in_err-rest-2-clause-here : goal.returns-in_err-rest-2-clause-here
returns-in_err-rest-2-clause-here c =
    let p = err_from_is_err_and c.from_residual-in_err-rest-2.result c.from_residual-in_err-rest-2.ensures.1 in
    rw (p.1, p.2)
    (value_here (reading_of c.args.names.now) c.args.number c.args.left.now c.requires.given c.args.text.now c.in_ok-key.key c.in_ok-key.rest.now c.in_ok-key.ensures.ok
    c.in_ok-rest.rest.now c.in_err-rest-2.field-0.0 c.in_ok-rest.ensures.ok c.in_err-rest-2.ensures.here)

pub returns-in_err-rest-3-clause-here : goal.returns-in_err-rest-3-clause-here
returns-in_err-rest-3-clause-here c =
    let p = err_from_is_err_and c.from_residual-in_err-rest-3.result c.from_residual-in_err-rest-3.ensures.1 in
    rw (p.1, p.2)
    (closing_here (reading_of c.args.names.now) c.args.number c.args.left.now c.requires.given c.args.text.now c.in_ok-key.key c.in_ok-key.rest.now c.in_ok-key.ensures.ok
    c.in_ok-rest.rest.now c.in_ok-rest-2.ensures.ok.0 c.in_ok-rest-2.rest.now c.in_err-rest-3.field-0.0 c.in_ok-rest.ensures.ok c.in_ok-rest-2.ensures.ok.1 c.in_err-rest-3.ensures.here)

pub returns-clause-ok : goal.returns-clause-ok
returns-clause-ok c =
    predicate_read (reading_of c.args.names.now) c.args.number c.args.left.now c.requires.given c.args.text.now c.in_ok-key.key c.in_ok-key.rest.now c.in_ok-key.ensures.ok
    c.in_ok-rest.rest.now c.in_ok-rest-2.ensures.ok.0 c.in_ok-rest-2.rest.now c.in_ok-rest-3.rest.now c.in_ok-rest.ensures.ok c.in_ok-rest-2.ensures.ok.1 c.in_ok-rest-3.ensures.ok
