-- One instance more, in which no places stand.
use Rattle.std.proofs.Common.{◌≡◌, ◌+◌, ◌++◌, ◌∷◌, ◌∙◌, [], List, true, false, ap, refl, sym, drop, get_or, length, map, subst}
use Rattle.std.specs.Prelude.{None}
use Rattle.std.proofs.lemmas.List.{append-nil, map-append}
use Rattle.std.proofs.lemmas.List.Elements.{All-push}
use Rattle.std.specs.List.{filter}
use Rattle.nc_schema.specs.Places.{Place, is_of, place_of}
use Rattle.nc_schema.specs.Tables.{Tables}
use Rattle.nc_defaults.specs.declared.spans.Run.{Run}
use Rattle.nc_defaults.specs.declared.spots.Spot.{Spot}
use Rattle.nc_defaults.specs.Within.{AreWithin, IsWithin, place_here, places_in}
use Rattle.nc_defaults.specs.inner.Spans.{IsRun, part_at}
use Rattle.nc_defaults.specs.inner.Walks.{places_under, places_with}
use Rattle.nc_defaults.proofs.SpanLemmas.{has_step, no_run_left, none_below, run_at, run_is, run_more, run_passed}
use Rattle.nc_defaults.proofs.SpotsLemmas.{gathered}
use Rattle.nc_defaults.proofs.spots.add_ends.Goals as goal

pub loop-run-preserved-then-not-is_same_number : goal.loop-run-preserved-then-not-is_same_number
loop-run-preserved-then-not-is_same_number c =
    let args = c.args in
    let config = args.config.now in
    let place : Place = place_here config args.steps.now args.here in
    let depth = length args.steps.now in
    let i = c.loop-run.run-index in
    let none : Run = record { node = None; from = 0; to = 0 } in
    let run : Run = get_or args.runs.now i none in
    let it : IsRun depth config run = run_at depth config args.here.from args.here.to args.runs.now i none c.loop-run-test.true c.requires.runs in
    let fails : is_of args.child.0 (part_at depth config run) ≡ false = sym (run_is args.child.0 depth config run it) ∙ sym c.is_same_number.ensures ∙ c.if-not-is_same_number.true in
    record {
      places = ap (λ ps. places_in config c.loop-run.out ++ ps)
          (sym (run_passed args.children.now place args.child.0 args.child.1.now depth config args.runs.now i none run c.loop-run-test.true refl fails))
          ∙ c.loop-run.invariant.places;
      within = c.loop-run.invariant.within;
    }

pub loop-run-preserved-in_default : goal.loop-run-preserved-in_default
loop-run-preserved-in_default c =
    let args = c.args in
    let config = args.config.now in
    let depth = length args.steps.now in
    let i = c.loop-run.run-index in
    let none : Run = record { node = None; from = 0; to = 0 } in
    let run : Run = get_or args.runs.now i none in
    let it : IsRun depth config run = run_at depth config args.here.from args.here.to args.runs.now i none c.loop-run-test.true c.requires.runs in
    absurd (has_step args.child.0 depth config run it (sym c.is_same_number.ensures ∙ c.if-not-is_same_number.false) (sym c.in_default.ensures.step))

pub loop-run-preserved : goal.loop-run-preserved
loop-run-preserved c =
    let args = c.args in
    let tables = args.children.now in
    let config = args.config.now in
    let place : Place = place_here config args.steps.now args.here in
    let number = args.child.0 in
    let node = args.child.1.now in
    let depth = length args.steps.now in
    let kept = c.loop-run.invariant in
    let i = c.loop-run.run-index in
    let none : Run = record { node = None; from = 0; to = 0 } in
    let run : Run = get_or args.runs.now i none in
    let it : IsRun depth config run = run_at depth config args.here.from args.here.to args.runs.now i none c.loop-run-test.true c.requires.runs in
    let passes : is_of number (part_at depth config run) ≡ true = sym (run_is number depth config run it) ∙ sym c.is_same_number.ensures ∙ c.if-not-is_same_number.false in
    let spot : Spot = c.in_ok-below.below in
    let below : Place = place_here config spot.steps spot.here in
    let is : below ≡ place_of tables place node (part_at depth config run) =
    c.in_ok-below.ensures.place ∙ ap (λ (ts : Tables). place_of ts place node (part_at depth config run)) c.schema-schema.ensures in
    let bare : places_under tables below (number + 1) ≡ [] =
    ap (λ (b : Place). places_under tables b (number + 1)) is ∙ none_below tables place number node (part_at depth config run) passes c.requires.ends in
    let left : List Place = places_with tables place number node (filter (is_of number) (map (part_at depth config) (drop (i + 1) args.runs.now))) in
    let split = run_more tables place number node depth config args.runs.now i none run c.loop-run-test.true refl passes ∙ ap (λ (b : Place). (b ∷ places_under tables b (number + 1)) ++ left) (sym is) in
    let pushed : places_in config c.push.new.self ≡ places_in config c.loop-run.out ++ below ∷ places_under tables below (number + 1) =
    ap (places_in config) c.in_ok-push.ensures.ok
    ∙ map-append (λ (one : Spot). place_here config one.steps one.here) c.loop-run.out (spot ∷ [])
    ∙ ap (λ (ps : List Place). places_in config c.loop-run.out ++ below ∷ ps) (sym bare) in
    record {
      places = gathered (places_in config c.loop-run.out) (below ∷ places_under tables below (number + 1)) _ left _ _ pushed split kept.places;
      within = λ before. subst (AreWithin config) (sym c.in_ok-push.ensures.ok)
          (All-push (λ (one : Spot). IsWithin config one.here) c.loop-run.out spot (kept.within before) c.in_ok-below.ensures.within);
    }

pub returns-clause-places : goal.returns-clause-places
returns-clause-places c =
    let args = c.args in
    let config = args.config.now in
    let place : Place = place_here config args.steps.now args.here in
    let now = places_in config c.loop-run.out in
    sym (append-nil now)
    ∙ ap (λ ps. now ++ ps) (sym (no_run_left args.children.now place args.child.0 args.child.1.now (length args.steps.now) config args.runs.now c.loop-run.run-index c.loop-run-test.false))
    ∙ c.loop-run.invariant.places
