use Rattle.std.proofs.Common.{◌∙◌, ap, sym}
use Rattle.nc_defaults.specs.Within.{place_here}
use Rattle.nc_schema.specs.Places.{Place}
use Rattle.nc_schema.specs.declared.node.Case.{Case}
use Rattle.nc_validate.specs.inner.Children.{begun_violations}
use Rattle.nc_validate.specs.inner.First.{first}
use Rattle.nc_validate.proofs.ChildrenLemmas.{begun_is}
use Rattle.nc_validate.proofs.FirstLemmas.{stops_at, walk_ends}
use Rattle.nc_validate.proofs.structural.first_of_choices.Goals as goal

pub returns-then-is_found : goal.returns-then-is_found
returns-then-is_found c =
    let args = c.args in
    let place : Place = place_here args.config.now args.steps.now args.here in
    stops_at (λ (one : Case). begun_violations args.outline.now.schema.now place args.child.0 one.choice) c.as_slice-case-items.result.now c.loop-case.case-index (record { choice = 0; case = 0 })
    c.in_ok-found.found _ c.loop-case-test.true c.in_ok-found.ensures c.if-is_found.ensures
    (c.loop-case.invariant ∙ sym (ap first (begun_is args.outline.now.schema.now place args.child.0 args.child.1.now.cases)))

pub returns : goal.returns
returns c =
    let args = c.args in
    let place : Place = place_here args.config.now args.steps.now args.here in
    walk_ends (λ (one : Case). begun_violations args.outline.now.schema.now place args.child.0 one.choice) c.as_slice-case-items.result.now c.loop-case.case-index
    _ c.loop-case-test.false (c.loop-case.invariant ∙ sym (ap first (begun_is args.outline.now.schema.now place args.child.0 args.child.1.now.cases)))
