use Rattle.std.proofs.Common.{rules, not, ◌==◌}
use Rattle.std.proofs.lemmas.Fn.{filter_same}
use Rattle.nc_machine.proofs.sessions.without.Goals as goal

pub returns-clause-rest : goal.returns-clause-rest
returns-clause-rest c =
    filter_same _ (λ session. not (session.number == c.args.number.now)) _ (λ session b f' k. search rules) _ _
    c.retain.ensures.filtered
