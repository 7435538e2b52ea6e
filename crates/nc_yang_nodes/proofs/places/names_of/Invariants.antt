use Rattle.std.proofs.Common.{List, take}
use Rattle.nc_yang_scopes.specs.Numbers.{AreNumbers}
use Rattle.nc_yang_scopes.specs.Scopes.{Located}
use Rattle.nc_yang_nodes.specs.inner.Places.{AreFirsts}
use Rattle.nc_yang_nodes.proofs.places.names_of.Given as goal

abbrev pub invariant-loop-place : goal.invariant-loop-place
invariant-loop-place l = (ls : List Located) → AreNumbers l.scopes.located l.list ls → AreFirsts (take l.place ls) l.names
