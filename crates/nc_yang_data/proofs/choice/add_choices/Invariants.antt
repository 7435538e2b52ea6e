-- The choices before.
use Rattle.std.proofs.Common.{◌≡◌, ◌++◌, map, take}
use Rattle.nc_yang_nodes.specs.FeaturesOn.{is_on}
use Rattle.nc_yang_data.specs.Drafts.{choice_in}
use Rattle.nc_yang_data.proofs.choice.add_choices.Given as goal

abbrev pub invariant-loop-choice : goal.invariant-loop-choice
invariant-loop-choice l =
    l.schema
    ≡ record l.fn.schema { choices = l.fn.schema.choices ++ map (choice_in l.scopes (is_on l.features)) (take l.choice-index l.planned) }
