use Rattle.std.proofs.Common.{◌&&◌}
use Rattle.nc_names.specs.Same.{is_same_text}
use Rattle.nc_model.specs.Decision.{has_text}
use Rattle.nc_model.specs.declared.policy.Group.{Group}
use Rattle.nc_nacm.proofs.Owning.{any_more}
use Rattle.nc_nacm.proofs.groups.groups_with.Goals as goal

pub loop-group-preserved : goal.loop-group-preserved
loop-group-preserved c = λ other.
    any_more (λ (group : Group). is_same_text group.name other && has_text group.users c.args.user.now) c.args.groups.now c.loop-group.group-index
    c.group-item.result _ _ c.loop-group-test.true c.group-item.is (c.loop-group.invariant other) (c.in_ok-names.ensures other)
