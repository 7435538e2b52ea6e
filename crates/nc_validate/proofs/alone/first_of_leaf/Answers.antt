use Rattle.std.proofs.Common.{◌≡◌, ◌∙◌, [], ◌∷◌, ℕ, List, Bor, false, true, sym, ap, take}
use Rattle.std.specs.List.{list_any}
use Rattle.nc_defaults.specs.Within.{place_here, places_in}
use Rattle.nc_schema.specs.Places.{Place}
use Rattle.nc_schema.specs.Violations.{agree_in}
use Rattle.nc_validate.specs.inner.Alone.{HasValues, has_value}
use Rattle.nc_validate.specs.inner.Tuples.{texts}
use Rattle.nc_validate.proofs.AloneLemmas.{agrees_alone, values_added}
use Rattle.nc_validate.proofs.UniqueLemmas.{entry_taken, violation_at, walk_found, walk_on}
use Rattle.nc_validate.proofs.alone.first_of_leaf.Goals as goal

pub returns-then-there : goal.returns-then-there
returns-then-there c =
    let args = c.args in
    let rows = args.config.now in
    let tables = args.children.now in
    let spot = c.entry-item.result in
    let place : Place = place_here rows spot.steps spot.here in
    let before : List Place = places_in rows (take c.loop-entry.entry-index args.entries.now) in
    let values : List (List ℕ) = texts c.in_ok-values.values in
    let agrees : list_any (agree_in tables (args.leaf ∷ []) place) before ≡ true =
    sym (agrees_alone tables args.leaf before place c.loop-entry.seen values c.loop-entry.invariant.seen c.in_ok-values.ensures)
    ∙ ap (λ (vs : List (Bor (List ℕ))). list_any (has_value c.loop-entry.seen) (texts vs)) (sym c.as_slice.ensures)
    ∙ sym c.in_ok-more.ensures.there ∙ c.if-there.true in
    walk_found tables (args.leaf ∷ []) rows args.entries.now c.loop-entry.entry-index spot c.loop-entry-test.true c.entry-item.is
    _ c.in_ok-violation.field-0 agrees (c.in_ok-violation.ensures ∙ ap violation_at c.as_slice-then-there.ensures) c.loop-entry.invariant.walk

pub loop-entry-preserved : goal.loop-entry-preserved
loop-entry-preserved c =
    let args = c.args in
    let rows = args.config.now in
    let tables = args.children.now in
    let spot = c.entry-item.result in
    let place : Place = place_here rows spot.steps spot.here in
    let before : List Place = places_in rows (take c.loop-entry.entry-index args.entries.now) in
    let values : List (List ℕ) = texts c.in_ok-values.values in
    let differs : list_any (agree_in tables (args.leaf ∷ []) place) before ≡ false =
    sym (agrees_alone tables args.leaf before place c.loop-entry.seen values c.loop-entry.invariant.seen c.in_ok-values.ensures)
    ∙ ap (λ (vs : List (Bor (List ℕ))). list_any (has_value c.loop-entry.seen) (texts vs)) (sym c.as_slice.ensures)
    ∙ sym c.in_ok-more.ensures.there ∙ c.if-there.false in
    record {
      seen = entry_taken tables (args.leaf ∷ []) rows args.entries.now c.loop-entry.entry-index spot c.loop-entry-test.true c.entry-item.is
          (λ (entries : List Place). HasValues tables args.leaf entries c.in_ok-more.more)
          (values_added tables args.leaf before place c.loop-entry.seen c.in_ok-more.more (texts c.as_slice.result.now) c.loop-entry.invariant.seen c.in_ok-more.ensures.adds
          (ap texts c.as_slice.ensures ∙ c.in_ok-values.ensures));
      walk = walk_on tables (args.leaf ∷ []) rows args.entries.now c.loop-entry.entry-index spot c.loop-entry-test.true c.entry-item.is
          _ differs c.loop-entry.invariant.walk;
    }
