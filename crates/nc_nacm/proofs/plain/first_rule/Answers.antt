use Rattle.std.proofs.Common.{ap, sym, ◌∙◌}
use Rattle.std.specs.List.{flat_map}
use Rattle.std.specs.Option.{option_copied}
use Rattle.nc_model.specs.Decision.{is_in_some_group, rules_in}
use Rattle.nc_nacm.proofs.Firsts.{none_where}
use Rattle.nc_nacm.proofs.plain.first_rule.Goals as goal

pub returns-in_default : goal.returns-in_default
returns-in_default g c =
    sym (none_where (g.A.Asked.matches c.args.asked.now) (is_in_some_group c.args.policy.now c.args.peer.now)
    (flat_map (rules_in c.args.policy.now c.args.peer.now) c.args.policy.now.lists) (sym c.first_applying.ensures ∙ ap option_copied c.in_default.is))
