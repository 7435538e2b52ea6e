use Rattle.std.proofs.Common.{◌∙◌, sym}
use Rattle.nc_yang_scopes.proofs.DefinedNames.{closed_none}
use Rattle.nc_yang_scopes.proofs.links.is_out.Goals as goal

pub returns-then-is_of : goal.returns-then-is_of
returns-then-is_of c = λ shut. closed_none c.args.scopes.now c.args.sort c.args.number (sym c.is_in_closed.ensures ∙ shut)
