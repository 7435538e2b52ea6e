use Rattle.std.proofs.Common.{ap, sym, ◌∙◌}
use Rattle.std.specs.Option.{option_copied}
use Rattle.nc_model.specs.Decision.{applies}
use Rattle.nc_nacm.proofs.Firsts.{none_where}
use Rattle.nc_nacm.proofs.plain.first_of.Goals as goal

pub returns-in_default : goal.returns-in_default
returns-in_default g c =
    sym (none_where (g.A.Asked.matches c.args.asked.now) (applies c.args.policy.now c.args.peer.now c.args.list.now) c.args.list.now.rules
    (sym c.first_in.ensures ∙ ap option_copied c.in_default.is))
