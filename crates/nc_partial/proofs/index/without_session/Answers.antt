use Rattle.std.proofs.Common.{rules, not, ◌==◌}
use Rattle.std.proofs.lemmas.Fn.{filter_same}
use Rattle.nc_partial.proofs.index.without_session.Goals as goal

pub returns : goal.returns
returns c =
    filter_same _ (λ entry. not (entry.session == c.args.session.now)) _ (λ entry b f' k. search rules) _ _ c.retain.ensures.filtered
