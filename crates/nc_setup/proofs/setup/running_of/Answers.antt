use Rattle.std.proofs.Common.{rules}
use Rattle.nc_setup.proofs.Refusing.{cause_refuses}
use Rattle.nc_setup.proofs.Stopping.{refused_for}
use Rattle.nc_setup.proofs.setup.running_of.Goals as goal

pub returns-in-Err-Refused-clause-read : goal.returns-in-Err-Refused-clause-read
returns-in-Err-Refused-clause-read c =
    λ refusals has. cause_refuses c.args.contents.now refusals c.args.schema.now c.in-Err-Refused.cause c.invalid.result has
    (refused_for _ _ _ c.in-Err-Refused.cause (search rules) c.in-Err-Refused.ensures.read) c.invalid.ensures
