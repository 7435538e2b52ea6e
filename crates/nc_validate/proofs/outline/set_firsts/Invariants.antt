use Rattle.std.proofs.Common.{take}
use Rattle.nc_validate.specs.inner.Choices.{HasFirsts}
use Rattle.nc_validate.proofs.outline.set_firsts.Given as goal

abbrev pub invariant-loop-case : goal.invariant-loop-case
invariant-loop-case l = HasFirsts (take l.case-index l.cases) l.number l.fn.firsts l.firsts
