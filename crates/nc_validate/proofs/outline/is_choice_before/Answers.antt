use Rattle.std.proofs.Common.{◌∙◌}
use Rattle.std.specs.Prelude.{None, Some}
use Rattle.nc_validate.proofs.ChoiceLemmas.{choice_before}
use Rattle.nc_validate.proofs.outline.is_choice_before.Goals as goal

pub returns-in-Some : goal.returns-in-Some
returns-in-Some c =
    let outline = c.args.outline.now in
    c.is_below.ensures
    ∙ choice_before outline.schema.now outline.firsts c.args.number c.args.choice (Some c.in-Some.first.now) c.in-Some.ensures.value c.requires.outline.firsts c.requires.known

pub returns-in-None : goal.returns-in-None
returns-in-None c =
    let outline = c.args.outline.now in
    choice_before outline.schema.now outline.firsts c.args.number c.args.choice None c.in-None.ensures.value c.requires.outline.firsts c.requires.known
