use Rattle.std.proofs.Common.{◌∙◌, List, sym, ap}
use Rattle.std.specs.List.{list_any}
use Rattle.nc_names.specs.declared.path.Step.{Step}
use Rattle.nc_schema.specs.Standing.{cases_differ, cases_of}
use Rattle.nc_payload.proofs.EarlierLemmas.{no_cases}
use Rattle.nc_payload.proofs.indexed.Indexed.has_other_case.Goals as goal

pub returns-then-is_empty : goal.returns-then-is_empty
returns-then-is_empty c = sym (no_cases c.args.schema.now c.args.node.now.cases c.args.self.now (c.is_empty.ensures.0 c.if-is_empty.true))

pub returns : goal.returns
returns c =
    c.is_any_of_other_case.ensures ∙ c.self.invariant.1 (λ number. cases_differ c.args.node.now.cases (cases_of c.args.schema.now number))
    ∙ ap (λ (list : List Step). list_any (λ other. cases_differ c.args.node.now.cases (cases_of c.args.schema.now other.node)) list) c.self.view_is
