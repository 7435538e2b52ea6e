use Rattle.std.proofs.Common.{◌≡◌, ◌++◌, ◌∷◌, ◌∙◌, [], List, false, true, ap, sym, drop, get_or, length, map, refl, subst, arith, append_assoc}
use Rattle.std.proofs.lemmas.List.{append-nil, map-append}
use Rattle.std.specs.Prelude.{None, Some}
use Rattle.std.specs.List.{filter}
use Rattle.nc_schema.specs.Places.{Place, is_of, node_there, parts_of, place_of}
use Rattle.nc_schema.specs.Tables.{Tables}
use Rattle.std.proofs.lemmas.List.Elements.{All-push}
use Rattle.std.proofs.Common.{◌+◌, ℕ}
use Rattle.nc_names.specs.declared.path.Step.{Step}
use Rattle.nc_schema.specs.Kinds.{holds_nodes, is_plain_container}
use Rattle.nc_defaults.specs.declared.spots.Spot.{Spot}
use Rattle.nc_defaults.specs.declared.spans.Run.{Run}
use Rattle.nc_defaults.specs.Children.{children_of}
use Rattle.nc_defaults.specs.Sought.{sought}
use Rattle.nc_defaults.specs.Within.{AreWithin, IsWithin, place_here, places_in, rows_between}
use Rattle.nc_defaults.specs.inner.Spans.{IsRun, part_at}
use Rattle.nc_defaults.specs.inner.Walks.{places_at, places_at_all, places_under, places_with}
use Rattle.nc_defaults.proofs.SpanLemmas.{no_places_in, has_step, no_run_left, none_of, nothing_stands, run_at, run_is, run_more, run_passed, runs_are}
use Rattle.nc_defaults.proofs.SpotsLemmas.{absent_container, child_more, child_passed, listed, no_child_left, no_places_at, places_at_node}
use Rattle.nc_defaults.proofs.SoughtLemmas.{gathered_sought, skipped, unsought_all, unsought_at}
use Rattle.nc_defaults.proofs.spots.+spots.Goals as goal

pub add_below-loop-child-preserved : goal.add_below-loop-child-preserved
add_below-loop-child-preserved t c =
    let args = c.args in
    let config = args.config.now in
    let tables = args.children.now in
    let place : Place = place_here config args.steps.now args.here in
    let items = c.in_parent-numbers.result.now in
    let i = c.loop-child.child-index in
    record {
      places = gathered_sought args.marks.now (places_in config c.loop-child.out) (places_at tables place (get_or items i 0))
          (places_at_all tables place args.number (drop i items)) (places_at_all tables place args.number (drop (i + 1) items)) _ (places_in config c.add_child.new.out)
          c.in_ok-add_child.ensures.places (child_more tables place args.number items i c.loop-child-test.true (omega (arith, c.if-child-number.false))) c.loop-child.invariant.places;
      within = λ before. c.in_ok-add_child.ensures.within (c.loop-child.invariant.within before);
    }

pub add_below-loop-child-preserved-then-child-number : goal.add_below-loop-child-preserved-then-child-number
add_below-loop-child-preserved-then-child-number t c =
    let args = c.args in
    let config = args.config.now in
    let tables = args.children.now in
    let place : Place = place_here config args.steps.now args.here in
    let items = c.in_parent-numbers.result.now in
    record {
      places = ap (λ ps. sought args.marks.now (places_in config c.loop-child.out ++ ps))
          (sym (child_passed tables place args.number items c.loop-child.child-index c.loop-child-test.true c.if-child-number.true))
          ∙ c.loop-child.invariant.places;
      within = c.loop-child.invariant.within;
    }

pub add_below-returns-clause-places : goal.add_below-returns-clause-places
add_below-returns-clause-places t c =
    let args = c.args in
    let config = args.config.now in
    let tables = args.children.now in
    let place : Place = place_here config args.steps.now args.here in
    let items = c.in_parent-numbers.result.now in
    let now = places_in config c.loop-child.out in
    let are : items ≡ children_of tables.nodes (node_there place) = c.in_parent-numbers.ensures ∙ ap (children_of tables.nodes) c.node_there.ensures in
    ap (sought args.marks.now)
    (sym (append-nil now) ∙ ap (λ ps. now ++ ps) (sym (no_child_left tables place args.number items c.loop-child.child-index c.loop-child-test.false)))
    ∙ c.loop-child.invariant.places
    ∙ ap (λ ps. sought args.marks.now (places_in config args.out.now ++ ps)) (ap (places_at_all tables place args.number) are ∙ listed tables place args.number)

pub add_below-returns-then-not-have_places-clause-places : goal.add_below-returns-then-not-have_places-clause-places
add_below-returns-then-not-have_places-clause-places t c =
    let args = c.args in
    let tables = args.children.now in
    let place : Place = place_here args.config.now args.steps.now args.here in
    let out = places_in args.config.now args.out.now in
    let items = c.in_parent-numbers.result.now in
    let are : items ≡ children_of tables.nodes (node_there place) = c.in_parent-numbers.ensures ∙ ap (children_of tables.nodes) c.node_there.ensures in
    let none : places_at_all tables place args.number items ≡ [] = no_places_in tables place args.number items (sym c.have_places.ensures ∙ c.if-not-have_places.true) in
    ap (sought args.marks.now)
    (sym (append-nil out) ∙ ap (λ ps. out ++ ps) (sym none ∙ ap (places_at_all tables place args.number) are ∙ listed tables place args.number))

pub add_below-returns-then-not-seeks_any-clause-places : goal.add_below-returns-then-not-seeks_any-clause-places
add_below-returns-then-not-seeks_any-clause-places t c =
    let args = c.args in
    let tables = args.children.now in
    let place : Place = place_here args.config.now args.steps.now args.here in
    let items = c.in_parent-numbers.result.now in
    let are : items ≡ children_of tables.nodes (node_there place) = c.in_parent-numbers.ensures ∙ ap (children_of tables.nodes) c.node_there.ensures in
    let under : places_at_all tables place args.number items ≡ places_under tables place args.number = ap (places_at_all tables place args.number) are ∙ listed tables place args.number in
    skipped args.marks.now (places_in args.config.now args.out.now) (places_under tables place args.number)
    (ap (sought args.marks.now) (sym under)
    ∙ unsought_all tables args.marks.now place args.number items c.requires.marks (sym c.seeks_any.ensures ∙ c.if-not-seeks_any.true))

pub add_child-returns-in_default-clause-places : goal.add_child-returns-in_default-clause-places
add_child-returns-in_default-clause-places t c =
    let args = c.args in
    let out = places_in args.config.now args.out.now in
    let place : Place = place_here args.config.now args.steps.now args.here in
    ap (sought args.marks.now)
    (sym (append-nil out) ∙ ap (λ ps. out ++ ps) (sym (no_places_at args.children.now place args.number (sym c.in_default.ensures.value))))

pub add_child-returns-then-not-is_sought-clause-places : goal.add_child-returns-then-not-is_sought-clause-places
add_child-returns-then-not-is_sought-clause-places t c =
    let args = c.args in
    let tables = args.children.now in
    let place : Place = place_here args.config.now args.steps.now args.here in
    skipped args.marks.now (places_in args.config.now args.out.now) (places_at tables place args.number)
    (unsought_at tables args.marks.now place args.number c.requires.marks (sym c.is_sought.ensures ∙ c.if-not-is_sought.true))

pub add_child-returns-clause-places : goal.add_child-returns-clause-places
add_child-returns-clause-places t c =
    let args = c.args in
    let place : Place = place_here args.config.now args.steps.now args.here in
    c.in_ok-add_parts.ensures.places
    ∙ ap (λ ps. sought args.marks.now (places_in args.config.now args.out.now ++ ps)) (places_at_node args.children.now place args.number c.in-Some.node.now (sym c.in-Some.ensures.value))

pub add_parts-returns-then-not-has_run-clause-places : goal.add_parts-returns-then-not-has_run-clause-places
add_parts-returns-then-not-has_run-clause-places t c =
    let args = c.args in
    let tables = args.children.now in
    let config = args.config.now in
    let here = args.here in
    let place : Place = place_here config args.steps.now here in
    let number = args.child.0 in
    let node = args.child.1.now in
    let step : Step = record { node = number; keys = [] } in
    let below : Place = place_here config c.in_ok-own_below.field-0 c.place_of.result in
    let plain : is_plain_container node.kind ≡ true = cc (c.is_plain.ensures, c.if-not-is_plain.false) in
    let none : length (parts_of place number) ≡ 0 =
    ap length (none_of place number config here.from here.to args.runs.now refl c.requires.runs (sym c.has_run.ensures ∙ c.if-not-has_run.true)) in
    let longer : c.in_ok-own_below.field-0 ≡ args.steps.now ++ step ∷ [] =
    c.in_ok-own_below.ensures ∙ ap (λ (ks : List (List ℕ)). args.steps.now ++ record { node = number; keys = ks } ∷ []) c.new.ensures in
    let is : below ≡ place_of tables place node (record { step = Some step; rows = rows_between config here.from here.from }) =
    ap (λ (steps : List Step). place_here config steps c.place_of.result) longer
    ∙ c.place_of.ensures.place (Some step)
    ∙ ap (λ (ts : Tables). place_of ts place node (record { step = Some step; rows = rows_between config here.from here.from })) c.schema-schema.ensures in
    c.in_ok-add_place.ensures.places
    ∙ ap (λ xs. sought args.marks.now (places_in config args.out.now ++ xs)) (absent_container tables place below number node config here.from plain none is)

pub add_parts-returns-then-not-is_plain-clause-places : goal.add_parts-returns-then-not-is_plain-clause-places
add_parts-returns-then-not-is_plain-clause-places t c =
    let args = c.args in
    let tables = args.children.now in
    let config = args.config.now in
    let here = args.here in
    let place : Place = place_here config args.steps.now here in
    let number = args.child.0 in
    let node = args.child.1.now in
    let out = places_in config args.out.now in
    let holds : holds_nodes node.kind ≡ true = cc (c.has_places.ensures, c.if-not-has_places.false) in
    let plain : is_plain_container node.kind ≡ false = cc (c.is_plain.ensures, c.if-not-is_plain.true) in
    let none : parts_of place number ≡ [] = none_of place number config here.from here.to args.runs.now refl c.requires.runs (sym c.has_run.ensures ∙ c.if-not-has_run.true) in
    ap (sought args.marks.now) (sym (append-nil out) ∙ ap (λ ps. out ++ ps) (sym (nothing_stands tables place number node holds plain none)))

pub add_parts-loop-run-preserved-then-not-is_same_number : goal.add_parts-loop-run-preserved-then-not-is_same_number
add_parts-loop-run-preserved-then-not-is_same_number t c =
    let args = c.args in
    let config = args.config.now in
    let place : Place = place_here config args.steps.now args.here in
    let depth = length args.steps.now in
    let none : Run = record { node = None; from = 0; to = 0 } in
    let run : Run = get_or args.runs.now c.loop-run.run-index none in
    let it : IsRun depth config run = run_at depth config args.here.from args.here.to args.runs.now c.loop-run.run-index none c.loop-run-test.true c.requires.runs in
    let fails : is_of args.child.0 (part_at depth config run) ≡ false = sym (run_is args.child.0 depth config run it) ∙ sym c.is_same_number.ensures ∙ c.if-not-is_same_number.true in
    record {
      places = ap (λ ps. sought args.marks.now (places_in config c.loop-run.out ++ ps))
          (sym (run_passed args.children.now place args.child.0 args.child.1.now depth config args.runs.now c.loop-run.run-index none run c.loop-run-test.true refl fails))
          ∙ c.loop-run.invariant.places;
      within = c.loop-run.invariant.within;
    }

pub add_parts-loop-run-preserved-in_default : goal.add_parts-loop-run-preserved-in_default
add_parts-loop-run-preserved-in_default t c =
    let args = c.args in
    let config = args.config.now in
    let depth = length args.steps.now in
    let none : Run = record { node = None; from = 0; to = 0 } in
    let run : Run = get_or args.runs.now c.loop-run.run-index none in
    let it : IsRun depth config run = run_at depth config args.here.from args.here.to args.runs.now c.loop-run.run-index none c.loop-run-test.true c.requires.runs in
    absurd (has_step args.child.0 depth config run it (sym c.is_same_number.ensures ∙ c.if-not-is_same_number.false) (sym c.in_default.ensures.step))

pub add_parts-returns-clause-places : goal.add_parts-returns-clause-places
add_parts-returns-clause-places t c =
    let args = c.args in
    let config = args.config.now in
    let tables = args.children.now in
    let here = args.here in
    let place : Place = place_here config args.steps.now here in
    let number = args.child.0 in
    let node = args.child.1.now in
    let now = places_in config c.loop-run.out in
    let holds : holds_nodes node.kind ≡ true = cc (c.has_places.ensures, c.if-not-has_places.false) in
    ap (sought args.marks.now)
    (sym (append-nil now)
    ∙ ap (λ ps. now ++ ps) (sym (no_run_left tables place number node (length args.steps.now) config args.runs.now c.loop-run.run-index c.loop-run-test.false)))
    ∙ c.loop-run.invariant.places
    ∙ ap (λ ps. sought args.marks.now (places_in config args.out.now ++ ps))
    (runs_are tables place number node config here.from here.to args.runs.now refl c.requires.runs holds (sym c.has_run.ensures ∙ c.if-not-has_run.false))

pub add_parts-returns-then-not-have_places_in-clause-places : goal.add_parts-returns-then-not-have_places_in-clause-places
add_parts-returns-then-not-have_places_in-clause-places t c =
    let args = c.args in
    let config = args.config.now in
    let place : Place = place_here config args.steps.now args.here in
    let node = args.child.1.now in
    let holds : holds_nodes node.kind ≡ true = cc (c.has_places.ensures, c.if-not-has_places.false) in
    ap (sought args.marks.now)
    (c.in_ok-add_ends.ensures.places
    ∙ ap (λ ps. places_in config args.out.now ++ ps)
    (runs_are args.children.now place args.child.0 node config args.here.from args.here.to args.runs.now refl c.requires.runs holds (sym c.has_run.ensures ∙ c.if-not-has_run.false)))

pub add_parts-add_ends-requires-clause-ends : goal.add_parts-add_ends-requires-clause-ends
add_parts-add_ends-requires-clause-ends t c = sym c.have_places_in.ensures ∙ c.if-not-have_places_in.true

pub add_parts-loop-run-preserved : goal.add_parts-loop-run-preserved
add_parts-loop-run-preserved t c =
    let args = c.args in
    let tables = args.children.now in
    let config = args.config.now in
    let place : Place = place_here config args.steps.now args.here in
    let number = args.child.0 in
    let node = args.child.1.now in
    let depth = length args.steps.now in
    let kept = c.loop-run.invariant in
    let none : Run = record { node = None; from = 0; to = 0 } in
    let run : Run = get_or args.runs.now c.loop-run.run-index none in
    let i = c.loop-run.run-index in
    let it : IsRun depth config run = run_at depth config args.here.from args.here.to args.runs.now i none c.loop-run-test.true c.requires.runs in
    let passes : is_of number (part_at depth config run) ≡ true = sym (run_is number depth config run it) ∙ sym c.is_same_number.ensures ∙ c.if-not-is_same_number.false in
    let spot : Spot = c.in_ok-below.below in
    let below : Place = place_here config spot.steps spot.here in
    let is : below ≡ place_of tables place node (part_at depth config run) =
    c.in_ok-below.ensures.place ∙ ap (λ (ts : Tables). place_of ts place node (part_at depth config run)) c.schema-schema.ensures in
    let left : List Place = places_with tables place number node (filter (is_of number) (map (part_at depth config) (drop (i + 1) args.runs.now))) in
    let split = run_more tables place number node depth config args.runs.now i none run c.loop-run-test.true refl passes ∙ ap (λ (b : Place). (b ∷ places_under tables b (number + 1)) ++ left) (sym is) in
    record {
      places = gathered_sought args.marks.now (places_in config c.loop-run.out) (below ∷ places_under tables below (number + 1)) _ left _ (places_in config c.add_place-in-loop-run.new.out) c.in_ok-add_place-2.ensures.places split kept.places;
      within = λ before. c.in_ok-add_place-2.ensures.within (kept.within before);
    }

pub add_place-returns-in_err-add_below-clause-within : goal.add_place-returns-in_err-add_below-clause-within
add_place-returns-in_err-add_below-clause-within t c = λ before.
    let config = c.args.config.now in
    let pushed = All-push (λ (one : Spot). IsWithin config one.here) c.args.out.now c.args.spot before c.requires.here in
    c.in_err-add_below.ensures.within (subst (AreWithin config) (sym c.in_ok-push.ensures.ok) pushed)

pub add_place-returns-clause-within : goal.add_place-returns-clause-within
add_place-returns-clause-within t c = λ before.
    let config = c.args.config.now in
    let pushed = All-push (λ (one : Spot). IsWithin config one.here) c.args.out.now c.args.spot before c.requires.here in
    c.in_ok-add_below.ensures.within (subst (AreWithin config) (sym c.in_ok-push.ensures.ok) pushed)

pub add_place-returns-clause-places : goal.add_place-returns-clause-places
add_place-returns-clause-places t c =
    let args = c.args in
    let config = args.config.now in
    let tables = args.children.now in
    let before : List Place = places_in config args.out.now in
    let under : List Step → List Place = λ steps. places_under tables (place_here config steps args.spot.here) args.number in
    let place : Place = place_here config args.spot.steps args.spot.here in
    let pushed : places_in config c.push.new.self ≡ before ++ place ∷ [] =
    ap (places_in config) c.in_ok-push.ensures.ok ∙ map-append (λ (one : Spot). place_here config one.steps one.here) args.out.now (args.spot ∷ []) in
    let same : c.as_slice.result.now ≡ args.spot.steps = c.as_slice.ensures ∙ c.in_ok-steps.ensures in
    c.in_ok-add_below.ensures.places
    ∙ ap (λ (ps : List Place). sought args.marks.now (ps ++ under c.as_slice.result.now)) pushed
    ∙ ap (sought args.marks.now) (append_assoc before (place ∷ []) (under c.as_slice.result.now))
    ∙ ap (λ (steps : List Step). sought args.marks.now (before ++ place ∷ under steps)) same
