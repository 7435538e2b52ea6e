-- What the statements before choose.
use Rattle.std.proofs.Common.{take}
use Rattle.nc_yang_types.specs.inner.Known.{HasChosen}
use Rattle.nc_yang_types.proofs.choice.chosen_names.Given as goal

abbrev pub invariant-loop-statement : goal.invariant-loop-statement
invariant-loop-statement g l = HasChosen (g.C.Conditions.stands l.conditions) l.listed l.names (take l.statement-index l.below)
