use Rattle.std.proofs.Common.{take}
use Rattle.std.specs.Prelude.{Contains}
use Rattle.nc_yang_scopes.specs.declared.kinds.Defined.{Defined}
use Rattle.nc_yang_scopes.specs.inner.Links.{KeepsLoop}
use Rattle.nc_yang_scopes.proofs.arrange.first_loop.Given as goal

abbrev pub invariant-loop-sort : goal.invariant-loop-sort
invariant-loop-sort l = (sort : Defined) → Contains (take l.sort-index l.sort-items) sort → KeepsLoop l.scopes.texts sort
