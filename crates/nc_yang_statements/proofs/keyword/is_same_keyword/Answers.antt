use Rattle.std.proofs.Common.{◌∙◌}
use Rattle.nc_yang_statements.proofs.Tags.{same_is}
use Rattle.nc_yang_statements.proofs.keyword.is_same_keyword.Goals as goal

pub returns : goal.returns
returns c = c.eq.ensures ∙ same_is c.args.a c.args.b
