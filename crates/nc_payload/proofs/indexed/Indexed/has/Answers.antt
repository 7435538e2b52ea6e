use Rattle.std.proofs.Common.{◌∙◌, List, ap, sym}
use Rattle.std.specs.List.{list_any}
use Rattle.nc_names.specs.Same.{is_same_step}
use Rattle.nc_names.specs.declared.path.Step.{Step}
use Rattle.nc_payload.proofs.indexed.Indexed.has.Goals as goal

pub returns-then-is_sought : goal.returns-then-is_sought
returns-then-is_sought c =
    c.contains.ensures ∙ c.self.invariant.0 c.args.step.now (sym c.is_sought.ensures ∙ c.if-is_sought.true)
    ∙ ap (λ (list : List Step). list_any (λ other. is_same_step other c.args.step.now) list) c.self.view_is
