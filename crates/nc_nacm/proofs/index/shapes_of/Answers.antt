use Rattle.std.proofs.Common.{map, Bor}
use Rattle.nc_model.specs.declared.policy.Rule.{Rule}
use Rattle.nc_nacm.proofs.Shapes.{listed}
use Rattle.nc_nacm.proofs.index.shapes_of.Goals as goal

pub returns : goal.returns
returns c =
    listed c.members.result c.in_ok-known.known.keys (map (λ (rule : Bor Rule). rule.now) c.args.rules.now) c.members.ensures c.in_ok-known.ensures
