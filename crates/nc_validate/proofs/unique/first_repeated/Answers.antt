use Rattle.std.proofs.Common.{◌≡◌, ◌∙◌, ℕ, List, Bor, false, true, sym, ap, subst, take}
use Rattle.std.specs.BTreeSet.{contains}
use Rattle.std.specs.List.{list_any}
use Rattle.std.specs.Result.{IfOk}
use Rattle.nc_defaults.specs.Within.{place_here, places_in}
use Rattle.nc_schema.specs.Places.{Place}
use Rattle.nc_schema.specs.Violations.{agree_in, unique_violations}
use Rattle.nc_schema.specs.declared.violation.Violation.{Violation}
use Rattle.nc_validate.specs.inner.First.{first}
use Rattle.nc_validate.specs.inner.Tuples.{order}
use Rattle.nc_validate.proofs.UniqueLemmas.{agrees_is, only_leaf, seen_more, violation_at, walk_found, walk_on}
use Rattle.nc_validate.proofs.unique.first_repeated.Goals as goal

pub returns-then-apart : goal.returns-then-apart
returns-then-apart c = ap (λ (found : List Violation). first found) (sym (c.in_ok-apart.ensures c.if-apart.true))

pub returns-then-leafs-eq1 : goal.returns-then-leafs-eq1
returns-then-leafs-eq1 c =
    let args = c.args in
    subst (λ (leafs : List ℕ). IfOk c.first_of_leaf.result (λ it. it ≡ first (unique_violations args.children.now (places_in args.config.now args.entries.now) leafs)))
    (only_leaf args.leafs.now c.if-leafs-eq1.true) c.first_of_leaf.ensures

pub returns-then-has_any : goal.returns-then-has_any
returns-then-has_any c =
    let args = c.args in
    let rows = args.config.now in
    let spot = c.entry-item.result in
    let place : Place = place_here rows spot.steps spot.here in
    let before : List Place = places_in rows (take c.loop-entry.entry-index args.entries.now) in
    let agrees : list_any (agree_in args.children.now args.leafs.now place) before ≡ true =
    sym (agrees_is args.children.now args.leafs.now before place c.loop-entry.seen c.in_ok-tuples.tuples c.loop-entry.invariant.seen c.in_ok-tuples.ensures)
    ∙ ap (λ (ts : List (List (Bor (List ℕ)))). list_any (λ tuple. contains order c.loop-entry.seen tuple) ts) (sym c.as_slice.ensures) ∙ sym c.if-has_any.ensures in
    walk_found args.children.now args.leafs.now rows args.entries.now c.loop-entry.entry-index spot c.loop-entry-test.true c.entry-item.is
    _ c.in_ok-violation.field-0 agrees (c.in_ok-violation.ensures ∙ ap violation_at c.as_slice-then-has_any.ensures) c.loop-entry.invariant.walk

pub loop-entry-preserved : goal.loop-entry-preserved
loop-entry-preserved c =
    let args = c.args in
    let rows = args.config.now in
    let spot = c.entry-item.result in
    let place : Place = place_here rows spot.steps spot.here in
    let before : List Place = places_in rows (take c.loop-entry.entry-index args.entries.now) in
    let differs : list_any (agree_in args.children.now args.leafs.now place) before ≡ false =
    sym (agrees_is args.children.now args.leafs.now before place c.loop-entry.seen c.in_ok-tuples.tuples c.loop-entry.invariant.seen c.in_ok-tuples.ensures)
    ∙ ap (λ (ts : List (List (Bor (List ℕ)))). list_any (λ tuple. contains order c.loop-entry.seen tuple) ts) (sym c.as_slice.ensures) ∙ sym c.if-has_any.ensures in
    record {
      seen = seen_more args.children.now args.leafs.now rows args.entries.now c.loop-entry.entry-index spot c.loop-entry-test.true c.entry-item.is
          c.loop-entry.seen c.in_ok-seen.seen c.in_ok-tuples.tuples c.loop-entry.invariant.seen c.in_ok-seen.ensures c.in_ok-tuples.ensures;
      walk = walk_on args.children.now args.leafs.now rows args.entries.now c.loop-entry.entry-index spot c.loop-entry-test.true c.entry-item.is
          _ differs c.loop-entry.invariant.walk;
    }
