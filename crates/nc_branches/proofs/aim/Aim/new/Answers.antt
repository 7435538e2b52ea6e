use Rattle.std.proofs.Common.{[], None, refl}
use Rattle.std.specs.Option.{option_map_or}
use Rattle.nc_branches.specs.inner.Shoots.{rows_of}
use Rattle.nc_branches.specs.inner.Fronts.{orders_in}
use Rattle.nc_branches.proofs.Turned.{aimed_listed}
use Rattle.nc_branches.proofs.aim.Aim.new.Goals as goal

pub invariant_of-result : goal.invariant_of-result
invariant_of-result c =
    aimed_listed (record { tables = c.args.schema.now; orders = orders_in c.args.fronts.now; steps = c.args.steps.now; block = option_map_or rows_of c.args.new []; lay = None }) refl c.requires
