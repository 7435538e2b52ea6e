use Rattle.std.proofs.Common.{List, ap, length, ◌∙◌}
use Rattle.std.specs.Prelude.{slice_get}
use Rattle.nc_names.specs.declared.path.Step.{Step}
use Rattle.nc_defaults.proofs.StepLemmas.{next_in}
use Rattle.nc_defaults.proofs.steps.found_next.Goals as goal

pub returns-in-Some : goal.returns-in-Some
returns-in-Some c =
    let args = c.args in
    c.there.ensures
    ∙ c.in-Some.ensures args.step.now
    (ap (λ (path : List Step). slice_get path (length args.steps.now)) c.as_slice-path.ensures
    ∙ next_in (length args.steps.now) args.at args.config.now c.row_of.result.now args.step.now c.row_of.ensures c.requires.next)
