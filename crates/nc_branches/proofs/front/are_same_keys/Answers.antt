use Rattle.std.proofs.Common.{rules}
use Rattle.std.proofs.lemmas.Bool.Decides.{Decides-at}
use Rattle.nc_names.proofs.SameLemmas.{keys_decide}
use Rattle.nc_names.specs.Same.{is_same_keys}
use Rattle.nc_branches.proofs.front.are_same_keys.Goals as goal

pub returns-clause-same : goal.returns-clause-same
returns-clause-same c =
    Decides-at c.eq.result (is_same_keys c.args.keys.now c.args.others.now) (search rules) (keys_decide c.args.keys.now c.args.others.now)
