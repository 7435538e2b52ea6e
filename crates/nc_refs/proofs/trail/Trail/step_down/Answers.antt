use Rattle.nc_refs.specs.inner.Trails.{IsReached}
use Rattle.std.proofs.Common.{take, ◌+◌}
use Rattle.nc_refs.proofs.TrailLemmas.{one_further, reached_more}
use Rattle.nc_refs.proofs.trail.Trail.step_down.Goals as goal

pub returns-clause-trail : goal.returns-clause-trail
returns-clause-trail c =
    let reached : IsReached c.args.schema.now c.args.config.now (take (c.args.at + 1) c.args.steps.now) c.below-found.result =
    reached_more c.args.schema.now c.args.config.now c.args.steps.now c.args.at _ c.args.here c.below-found.result
    (one_further c.args.steps.now c.args.at c.index-steps-at.result c.requires.further c.index-steps-at.is) c.requires.reached c.below-found.ensures.place c.below-found.ensures.within in
    c.in_ok-trail-2.ensures c.args.schema.now c.args.config.now (c.in_ok-trail.ensures c.args.schema.now c.requires.trail) reached

pub returns-clause-reached : goal.returns-clause-reached
returns-clause-reached c =
    reached_more c.args.schema.now c.args.config.now c.args.steps.now c.args.at _ c.args.here c.below-found.result
    (one_further c.args.steps.now c.args.at c.index-steps-at.result c.requires.further c.index-steps-at.is) c.requires.reached c.below-found.ensures.place c.below-found.ensures.within
