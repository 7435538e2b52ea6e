use Rattle.std.proofs.Common.{rules, not, ◌==◌}
use Rattle.std.proofs.lemmas.Fn.{filter_same}
use Rattle.nc_partial.proofs.locks.keep_of_others.Goals as goal

pub returns : goal.returns
returns c =
    filter_same _ (λ held. not (held.session == c.args.session.now)) _ (λ held b f' k. search rules) _ _ c.retain.ensures.filtered
