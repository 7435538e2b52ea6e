-- Where the path turns down.
use Rattle.std.proofs.Common.{◌∙◌, None, sym, ap}
use Rattle.nc_path_places.specs.inner.Counted.{reading_of}
use Rattle.nc_path_places.specs.inner.LeafrefNames.{goes_down}
use Rattle.nc_path_places.proofs.LeafrefPlaces.{path_over_halts, path_slash_halts, path_start_halts, turn_top, turn_up}
use Rattle.nc_path_places.proofs.leafref_place.turn.Goals as goal

pub returns-then-goes_down-clause-ok : goal.returns-then-goes_down-clause-ok
returns-then-goes_down-clause-ok c =
    turn_up c.args.ways.now c.requires.ways c.args.leaf c.requires.own c.args.text.now c.in_ok-above.above c.in_ok-above.rest.now c.in_ok-above.ensures.ok c.in_ok-above.ensures.over
    (sym (c.goes_down.ensures ∙ ap (λ m. goes_down m c.in_ok-above.above) c.as_slice-marks.ensures) ∙ c.if-goes_down.true)

pub returns-then-begins_with-clause-here : goal.returns-then-begins_with-clause-here
returns-then-begins_with-clause-here c =
    let ways = c.args.ways.now in
    path_over_halts (reading_of ways.names) ways.own.now ways.marks c.requires.ways.marks c.args.leaf c.requires.own c.args.text.now c.in_ok-above.above c.in_ok-above.rest.now
    c.in_ok-above.ensures.ok.leads c.in_ok-above.ensures.over c.in_ok-above.ensures.ok.goes
    (sym (c.goes_down.ensures ∙ ap (λ m. goes_down m c.in_ok-above.above) c.as_slice-marks.ensures) ∙ c.if-goes_down.false)

pub returns-then-goes_down-2-clause-ok : goal.returns-then-goes_down-2-clause-ok
returns-then-goes_down-2-clause-ok c =
    turn_top c.args.ways.now c.requires.ways c.args.leaf c.requires.own c.args.text.now c.in-Some.rest.now c.in-Some.ensures
    (sym (c.goes_down-in-Some.ensures ∙ ap (λ m. goes_down m None) c.as_slice-marks.ensures) ∙ c.if-goes_down-2.true)

pub returns-else-goes_down-2-clause-here : goal.returns-else-goes_down-2-clause-here
returns-else-goes_down-2-clause-here c =
    let ways = c.args.ways.now in
    path_slash_halts (reading_of ways.names) ways.own.now ways.marks c.requires.ways.marks c.args.leaf c.requires.own c.args.text.now c.in-Some.rest.now c.in-Some.ensures
    (sym (c.goes_down-in-Some.ensures ∙ ap (λ m. goes_down m None) c.as_slice-marks.ensures) ∙ c.if-goes_down-2.false)

pub returns-in-None-clause-here : goal.returns-in-None-clause-here
returns-in-None-clause-here c =
    let ways = c.args.ways.now in
    path_start_halts (reading_of ways.names) ways.own.now ways.marks c.requires.ways.marks c.args.leaf c.requires.own c.args.text.now (sym c.begins_with.ensures ∙ c.if-begins_with.false)
    c.in-None.ensures
