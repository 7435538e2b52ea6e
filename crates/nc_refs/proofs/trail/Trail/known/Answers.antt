use Rattle.std.proofs.Common.{sym, subst, ◌∙◌}
use Rattle.std.specs.Prelude.{IfSome}
use Rattle.nc_refs.specs.inner.Trails.{IsReached}
use Rattle.nc_refs.proofs.trail.Trail.known.Goals as goal

pub returns : goal.returns
returns c = λ schema rows trail.
    subst (λ o. IfSome o (IsReached schema rows c.args.steps.now)) (sym (c.copied.ensures ∙ c.get.ensures.value)) (trail.places c.args.steps)
