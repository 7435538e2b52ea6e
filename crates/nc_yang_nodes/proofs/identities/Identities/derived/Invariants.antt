use Rattle.std.proofs.Common.{List, take}
use Rattle.nc_yang_nodes.specs.FeaturesOn.{is_on}
use Rattle.nc_yang_scopes.specs.Numbers.{AreNumbers}
use Rattle.nc_yang_scopes.specs.Scopes.{Located}
use Rattle.nc_yang_nodes.specs.Values.{AreDerivedNumbers}
use Rattle.nc_yang_nodes.proofs.identities.Identities.derived.Given as goal

abbrev pub invariant-loop-base : goal.invariant-loop-base
invariant-loop-base l =
    (ls : List Located) → AreNumbers l.self.located l.bases ls → AreDerivedNumbers l.self (is_on l.features) (take l.base-index ls) l.numbers
