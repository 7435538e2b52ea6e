-- One `../` after another.
use Rattle.std.proofs.Common.{sym, ◌∙◌, rules}
use Rattle.std.proofs.lemmas.Result.{err_from_is_err_and}
use Rattle.nc_path_places.proofs.LeafrefPlaces.{first_missed, first_rises, next_missed, next_rises}
use Rattle.nc_path_places.proofs.leafref_place.rises.Goals as goal

pub returns-in_err-first-clause-here : goal.returns-in_err-first-clause-here
returns-in_err-first-clause-here c =
    let p = err_from_is_err_and c.from_residual.result c.from_residual.ensures.1 in
    rw (p.1, p.2) (first_missed c.args.ways.now c.requires.ways c.args.leaf c.requires.own c.args.text.now c.in_err-first.field-0.0 c.requires.dot c.in_err-first.ensures.here)

pub loop-rest-init : goal.loop-rest-init
loop-rest-init c = record {
  rises = first_rises c.args.ways.now c.requires.ways c.args.leaf c.requires.own c.args.text.now c.in_ok-first.first c.in_ok-first.after.now c.requires.dot c.in_ok-first.ensures.ok;
  utf8 = search rules;
}

pub returns-in_err-next-clause-here : goal.returns-in_err-next-clause-here
returns-in_err-next-clause-here c =
    let p = err_from_is_err_and c.from_residual-in_err-next.result c.from_residual-in_err-next.ensures.1 in
    rw (p.1, p.2)
    (next_missed c.args.ways.now c.requires.ways c.args.leaf c.requires.own c.args.text.now c.loop-rest.above c.loop-rest.rest.now c.in_err-next.field-0.0 c.loop-rest.invariant.rises
    (sym c.begins_with.ensures ∙ c.loop-rest-test.true) c.in_err-next.ensures.here)

pub loop-rest-preserved : goal.loop-rest-preserved
loop-rest-preserved c = record {
  rises = next_rises c.args.ways.now c.requires.ways c.args.leaf c.requires.own c.args.text.now c.loop-rest.above c.loop-rest.rest.now c.in_ok-next.next c.in_ok-next.after.now
      c.loop-rest.invariant.rises (sym c.begins_with.ensures ∙ c.loop-rest-test.true) c.in_ok-next.ensures.ok;
  utf8 = search rules;
}
