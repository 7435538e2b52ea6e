use Rattle.std.proofs.Common.{◌∙◌, ap, sym}
use Rattle.std.specs.List.{flat_map}
use Rattle.nc_yang_statements.specs.Statements.{below}
use Rattle.nc_yang_scopes.specs.Scopes.{text_of}
use Rattle.nc_yang_scopes.specs.Revisions.{unrevised_date}
use Rattle.nc_yang_scopes.proofs.revision.unrevised_import.Goals as goal

pub loop-below-init : goal.loop-below-init
loop-below-init c =
    ap (λ t. flat_map (unrevised_date c.args.scopes.now.texts c.args.number t) (below c.args.import.now))
    (sym (c.text_of-text.ensures ∙ ap (text_of c.args.scopes.now.texts) c.name.ensures))
    ∙ ap (flat_map (unrevised_date c.args.scopes.now.texts c.args.number c.text_of-text.result)) (sym c.as_slice-below-items.ensures)
