-- One predicate more, or the end of them.
use Rattle.std.proofs.Common.{Some, length, ap, sym, ◌∙◌, rules}
use Rattle.std.specs.List.{list_any}
use Rattle.std.proofs.lemmas.Result.{err_from_is_err_and}
use Rattle.nc_schema.specs.InstancePaths.{key_nodes}
use Rattle.nc_path_places.specs.inner.Candidates.{is_giveable}
use Rattle.nc_path_places.specs.inner.Counted.{reading_of}
use Rattle.nc_path_places.specs.inner.Going.{Keys, Steps}
use Rattle.nc_path_places.specs.inner.Places.{may_end}
use Rattle.nc_path_places.proofs.Cuts.{halts_on, leads_on}
use Rattle.nc_path_places.proofs.HereLemmas.{later_given, predicate_here, predicate_more}
use Rattle.nc_path_places.proofs.PlaceLemmas.{key_missing_halts, keys_end, no_key_halts}
use Rattle.nc_path_places.proofs.place.after_predicates.Goals as goal

pub returns-then-not-any_giveable-clause-here : goal.returns-then-not-any_giveable-clause-here
returns-then-not-any_giveable-clause-here c =
    let s = reading_of c.args.names.now in
    let number = c.args.number in
    let left = c.loop-inside.left in
    let rest = c.loop-inside.rest.now in
    halts_on (Keys s number (key_nodes s.tables number)) (Keys s number left) c.args.text.now rest (length rest) c.loop-inside.invariant.leads
    (no_key_halts s number left c.loop-inside.invariant.given rest c.in-Some.inside.now c.in-Some.ensures
    (sym (c.any_giveable.ensures ∙ ap (list_any (is_giveable s number)) c.as_slice.ensures) ∙ c.if-not-any_giveable.true))

pub returns-in_err-key-clause-here : goal.returns-in_err-key-clause-here
returns-in_err-key-clause-here c =
    let s = reading_of c.args.names.now in
    let p = err_from_is_err_and c.from_residual-in_err-key.result c.from_residual-in_err-key.ensures.1 in
    rw (p.1, p.2)
    (predicate_here s c.args.number (key_nodes s.tables c.args.number) c.loop-inside.left c.as_slice-in-Some.result.now c.args.text.now c.loop-inside.rest.now c.in-Some.inside.now
    c.in_err-key.field-0.0 c.loop-inside.invariant.leads c.as_slice-in-Some.ensures c.in-Some.ensures c.in_err-key.ensures.here)

pub loop-inside-preserved : goal.loop-inside-preserved
loop-inside-preserved c =
    let s = reading_of c.args.names.now in
    record {
      leads = predicate_more s c.args.number (key_nodes s.tables c.args.number) c.loop-inside.left c.as_slice-in-Some.result.now c.as_slice-in-Some-2.result.now c.in_ok-left-2.left c.args.text.now
          c.loop-inside.rest.now c.in-Some.inside.now c.in_ok-key.after.now c.in_ok-key.key c.loop-inside.invariant.given c.loop-inside.invariant.leads c.as_slice-in-Some.ensures
          c.as_slice-in-Some-2.ensures c.in_ok-left-2.ensures c.in-Some.ensures c.in_ok-key.ensures.ok;
      given = later_given s c.args.number c.loop-inside.left c.as_slice-in-Some-2.result.now c.in_ok-left-2.left c.in_ok-key.key c.loop-inside.invariant.given c.as_slice-in-Some-2.ensures c.in_ok-left-2.ensures;
      utf8 = search rules;
    }

pub returns-then-may_end-clause-ok : goal.returns-then-may_end-clause-ok
returns-then-may_end-clause-ok c =
    let s = reading_of c.args.names.now in
    let number = c.args.number in
    let left = c.loop-inside.left in
    let rest = c.loop-inside.rest.now in
    leads_on (Keys s number (key_nodes s.tables number)) (Keys s number left) (Steps s (Some number)) c.args.text.now rest rest c.loop-inside.invariant.leads
    (keys_end s number left c.loop-inside.invariant.given rest c.in_default.ensures (sym (c.may_end.ensures ∙ ap (may_end s) c.as_slice-2.ensures) ∙ c.if-may_end.true))

pub returns-clause-here : goal.returns-clause-here
returns-clause-here c =
    let s = reading_of c.args.names.now in
    let number = c.args.number in
    let left = c.loop-inside.left in
    let rest = c.loop-inside.rest.now in
    halts_on (Keys s number (key_nodes s.tables number)) (Keys s number left) c.args.text.now rest (length rest) c.loop-inside.invariant.leads
    (key_missing_halts s number left c.loop-inside.invariant.given rest c.in_default.ensures (sym (c.may_end.ensures ∙ ap (may_end s) c.as_slice-2.ensures) ∙ c.if-may_end.false))
