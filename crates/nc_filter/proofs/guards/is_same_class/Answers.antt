use Rattle.std.proofs.Common.{◌∙◌, sym}
use Rattle.nc_names.proofs.SameLemmas.{keys_decide}
use Rattle.nc_filter.proofs.guards.is_same_class.Goals as goal

pub returns : goal.returns
returns c = λ same. (keys_decide c.args.one.now.keys c.args.other.now.keys).0 (sym c.eq.ensures ∙ same)
