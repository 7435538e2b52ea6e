use Rattle.std.proofs.Common.{◌≡◌, length}
use Rattle.nc_yang_leafs.specs.Typed.{IsTyped}
use Rattle.nc_yang_scopes.specs.Prefixes.{ArePrefixes}
use Rattle.nc_yang_leafs.specs.inner.Reading.{AreFound}
use Rattle.nc_yang_leafs.proofs.all.all_defaults.Given as goal

abbrev pub invariant-loop-number : goal.invariant-loop-number
invariant-loop-number l = record {
  found : ArePrefixes l.scopes.texts l.prefixes → IsTyped l.scopes l.plan l.schema → AreFound l.scopes l.plan l.schema l.number l.found;
  counted : length l.found ≡ l.number;
}
