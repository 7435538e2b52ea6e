-- One name more.
use Rattle.std.proofs.Common.{Some, rules}
use Rattle.std.proofs.lemmas.Result.{err_from_is_err_and}
use Rattle.nc_path_places.specs.inner.Counted.{reading_of}
use Rattle.nc_path_places.specs.inner.Leafrefs.{Down}
use Rattle.nc_path_places.proofs.Cuts.{leads_on}
use Rattle.nc_path_places.proofs.HereLemmas.{on_led}
use Rattle.nc_path_places.proofs.leafref_place.names_down.Goals as goal

pub returns-in_err-number-clause-here : goal.returns-in_err-number-clause-here
returns-in_err-number-clause-here c =
    let ways = c.args.ways.now in
    let s = reading_of ways.names in
    let p = err_from_is_err_and c.from_residual.result c.from_residual.ensures.1 in
    rw (p.1, p.2)
    (on_led (Down s ways.own.now c.args.first) (Down s ways.own.now c.loop-rest.above) c.args.text.now c.loop-rest.rest.now c.in_err-number.field-0.0 c.loop-rest.invariant.leads
    c.in_err-number.ensures.here)

pub loop-rest-preserved : goal.loop-rest-preserved
loop-rest-preserved c =
    let ways = c.args.ways.now in
    let s = reading_of ways.names in
    record {
      leads = leads_on (Down s ways.own.now c.args.first) (Down s ways.own.now c.loop-rest.above) (Down s ways.own.now (Some c.in_ok-number.number)) c.args.text.now c.loop-rest.rest.now
          c.in_ok-number.after.now c.loop-rest.invariant.leads c.in_ok-number.ensures.ok.leads;
      goes = c.in_ok-number.ensures.ok.goes;
      utf8 = search rules;
    }
