use Rattle.std.proofs.Common.{◌∙◌, refl, sym}
use Rattle.nc_store.proofs.Spelling.{is_valid, not_valid}
use Rattle.nc_store.proofs.base.valid.Goals as goal

pub returns-in-Some : goal.returns-in-Some
returns-in-Some c = not_valid c.args.schema.now c.args.config _ (sym c.in_ok-violation_in.ensures ∙ c.in-Some.is)

pub returns-in-None : goal.returns-in-None
returns-in-None c = (refl, is_valid c.args.schema.now c.args.config (sym c.in_ok-violation_in.ensures ∙ c.in-None.is))
