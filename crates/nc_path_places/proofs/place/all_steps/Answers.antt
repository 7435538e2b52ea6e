-- One step more, or the end of them.
use Rattle.std.proofs.Common.{None, Some, rules}
use Rattle.std.proofs.lemmas.Result.{err_from_is_err_and}
use Rattle.nc_path_places.specs.inner.Counted.{reading_of}
use Rattle.nc_path_places.specs.inner.Going.{Steps}
use Rattle.nc_path_places.proofs.Cuts.{leads_on}
use Rattle.nc_path_places.proofs.HereLemmas.{end_halts, on_led}
use Rattle.nc_path_places.proofs.place.all_steps.Goals as goal

pub returns-in_err-number-clause-here : goal.returns-in_err-number-clause-here
returns-in_err-number-clause-here c =
    let s = reading_of c.args.names.now in
    let p = err_from_is_err_and c.from_residual.result c.from_residual.ensures.1 in
    rw (p.1, p.2)
    (on_led (Steps s None) (Steps s c.loop-rest.above) c.args.text.now c.loop-rest.rest.now c.in_err-number.field-0.0 c.loop-rest.invariant.leads c.in_err-number.ensures.here)

pub loop-rest-preserved : goal.loop-rest-preserved
loop-rest-preserved c =
    let s = reading_of c.args.names.now in
    record {
      leads = leads_on (Steps s None) (Steps s c.loop-rest.above) (Steps s (Some c.in_ok-number.number)) c.args.text.now c.loop-rest.rest.now c.in_ok-number.after.now c.loop-rest.invariant.leads c.in_ok-number.ensures.ok.leads;
      utf8 = search rules;
    }

pub returns-clause-ok : goal.returns-clause-ok
returns-clause-ok c = end_halts (reading_of c.args.names.now) c.loop-rest.above c.args.text.now c.loop-rest.rest.now c.loop-rest.invariant.leads (search rules)
