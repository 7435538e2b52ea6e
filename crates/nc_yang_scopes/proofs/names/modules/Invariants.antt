use Rattle.std.proofs.Common.{take}
use Rattle.nc_yang_scopes.specs.inner.Names.{IsModules}
use Rattle.nc_yang_scopes.proofs.names.modules.Given as goal

abbrev pub invariant-loop-text : goal.invariant-loop-text
invariant-loop-text l = IsModules (take l.text l.texts) l.table
