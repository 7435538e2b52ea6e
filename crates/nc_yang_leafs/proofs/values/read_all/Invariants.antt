use Rattle.std.proofs.Common.{◌≡◌, List, length, map, take}
use Rattle.std.specs.Prelude.{Some}
use Rattle.nc_yang_scopes.specs.Numbers.{AreNumbers}
use Rattle.nc_yang_scopes.specs.Scopes.{Located}
use Rattle.nc_yang_leafs.specs.Readings.{value_of}
use Rattle.nc_yang_scopes.specs.Prefixes.{ArePrefixes}
use Rattle.nc_yang_leafs.proofs.values.read_all.Given as goal

abbrev pub invariant-loop-default : goal.invariant-loop-default
invariant-loop-default l = record {
  read : ArePrefixes l.scopes.texts l.prefixes → (located : List Located) → AreNumbers l.scopes.located l.defaults located
      → map (value_of l.scopes.texts l.schema l.number) (take l.default-index located) ≡ map Some l.values;
  few : length l.values ≡ l.default-index;
}
