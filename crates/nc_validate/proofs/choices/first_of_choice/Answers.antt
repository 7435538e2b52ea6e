use Rattle.std.proofs.Common.{◌∙◌, sym}
use Rattle.nc_defaults.specs.Within.{place_here}
use Rattle.nc_schema.specs.Places.{Place}
use Rattle.nc_validate.proofs.ChoiceLemmas.{lacks_known}
use Rattle.nc_validate.proofs.choices.first_of_choice.Goals as goal

pub is_choice_before-requires-clause-known : goal.is_choice_before-requires-clause-known
is_choice_before-requires-clause-known c =
    let args = c.args in
    let place : Place = place_here args.config.now args.steps.now args.here in
    lacks_known args.outline.now.schema.now place args.which.1 (sym c.lacks.ensures ∙ c.if-not-lacks.false)
