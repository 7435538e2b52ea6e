use Rattle.std.proofs.Common.{◌≡◌, ◌∙◌, List, Option, ap, subst}
use Rattle.std.specs.Prelude.{IfOk}
use Rattle.nc_names.specs.declared.path.Row.{Row}
use Rattle.nc_protocol.specs.Edited.{Change, denied_cause, first_denied}
use Rattle.nc_edit.proofs.asks.first_denied.Goals as goal

pub returns : goal.returns
returns g c =
    let decided = g.R.Rights.decided c.args.rights.now in
    subst (λ (first : Option Change). IfOk c.denied_among.result (λ it. it ≡ denied_cause decided first))
    (c.in_ok-after.ensures decided ∙ ap (λ (rows : List Row). first_denied c.args.schema.now decided rows c.args.edit.now) c.in_ok-before.ensures)
    c.denied_among.ensures
