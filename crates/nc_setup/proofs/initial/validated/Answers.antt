use Rattle.std.proofs.Common.{refl, rules}
use Rattle.nc_setup.proofs.Stopping.{is_valid}
use Rattle.nc_setup.proofs.initial.validated.Goals as goal

pub returns-in-None : goal.returns-in-None
returns-in-None c = (refl, is_valid c.args.schema.now c.args.rows (search rules))
