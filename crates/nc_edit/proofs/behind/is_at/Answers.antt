use Rattle.std.proofs.Common.{◌≡◌, List, subst}
use Rattle.std.specs.Prelude.{◌↔◌, IsTrue}
use Rattle.nc_names.specs.declared.path.Step.{Step}
use Rattle.nc_edit.proofs.behind.is_at.Goals as goal

pub returns : goal.returns
returns c = subst (λ (steps : List Step). IsTrue c.same_steps.result ↔ (steps ≡ c.args.steps.now)) c.as_slice.ensures c.same_steps.ensures.same
