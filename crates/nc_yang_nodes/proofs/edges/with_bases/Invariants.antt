use Rattle.std.proofs.Common.{List, take}
use Rattle.nc_yang_scopes.specs.Numbers.{AreNumbers}
use Rattle.nc_yang_scopes.specs.Scopes.{Located}
use Rattle.nc_yang_nodes.specs.inner.Edges.{Adds, AnyOf, FromNamed}
use Rattle.nc_yang_nodes.proofs.edges.with_bases.Given as goal

abbrev pub invariant-loop-base : goal.invariant-loop-base
invariant-loop-base l =
    (ls : List Located) → AreNumbers l.places.located l.bases ls
    → Adds (AnyOf (take l.base-index ls) (FromNamed l.places.texts l.to)) l.fn.graph l.graph
