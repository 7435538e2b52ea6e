use Rattle.std.proofs.Common.{◌∙◌}
use Rattle.nc_machine.proofs.Edits.{edit_by_is}
use Rattle.nc_machine.proofs.server.Server.edit_by.Goals as goal

pub returns : goal.returns
returns c =
    edit_by_is c.args.self.now c.args.session c.args.test c.args.on_error _ _ c.args.edits.now _ _ _ c.edit_course.result
    (c.in_ok-rows.ensures ∙ c.in_force.ensures) c.as_slice-asked.ensures c.in_ok-causes.ensures c.in_ok-draft.ensures c.edit_course.ensures
