use Rattle.std.proofs.Common.{◌≡◌, ◌+◌, ◌<◌, ◌∙◌, List, ap, sym, get_or, length, take, arith}
use Rattle.nc_names.specs.declared.path.Step.{Step}
use Rattle.nc_schema.specs.InUse.{named_value, value_from, values_in_use}
use Rattle.nc_schema.specs.Places.{Place, top_place}
use Rattle.nc_defaults.specs.Within.{place_here}
use Rattle.nc_defaults.proofs.PartsLemmas.{last_step}
use Rattle.nc_defaults.proofs.value.in_use.Goals as goal

pub returns-then-at-steps : goal.returns-then-at-steps
returns-then-at-steps c =
    let tables = c.args.schema.now in
    let config = c.args.config.now in
    let steps = c.as_slice-steps.result.now in
    let now = c.loop-step in
    let kept = now.invariant in
    let step = c.step-item.result in
    let place : Place = place_here config (take now.at steps) now.here in
    let within : now.at < length steps = omega (arith, kept.same, c.loop-step-test.true) in
    let is : step ≡ get_or steps now.at step = c.step-item.is ∙ ap (λ k. get_or steps k step) (sym kept.same) in
    let end : now.at + 1 ≡ length steps = cc in
    c.value_in.ensures
    ∙ ap (λ (above : List Step). named_value step (values_in_use tables (place_here config above now.here) step.node)) c.head-above.ensures
    ∙ last_step tables place steps now.at step _ within is end kept.rest
    ∙ ap (λ (s : List Step). value_from tables (top_place config) s) c.as_slice-steps.ensures
