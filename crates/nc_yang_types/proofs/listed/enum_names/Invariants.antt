-- The names so far.
use Rattle.std.proofs.Common.{◌≡◌, take}
use Rattle.nc_yang_types.specs.Members.{enum_names}
use Rattle.nc_yang_types.proofs.listed.enum_names.Given as goal

abbrev pub invariant-loop-statement : goal.invariant-loop-statement
invariant-loop-statement g l = l.names ≡ enum_names (g.C.Conditions.stands l.conditions) (take l.statement-index l.below)
