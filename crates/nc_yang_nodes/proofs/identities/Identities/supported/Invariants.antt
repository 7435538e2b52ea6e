use Rattle.std.proofs.Common.{[], take}
use Rattle.nc_yang_nodes.specs.FeaturesOn.{is_on}
use Rattle.nc_yang_nodes.specs.Identities.{identities}
use Rattle.nc_yang_nodes.specs.Picks.{PicksNumbers}
use Rattle.nc_yang_nodes.specs.Values.{IsValue}
use Rattle.nc_yang_nodes.proofs.identities.Identities.supported.Given as goal

abbrev pub invariant-loop-number : goal.invariant-loop-number
invariant-loop-number l = PicksNumbers l.self.located (IsValue l.self.texts (is_on l.features) []) (take l.number-index (identities l.self.texts)) l.kept
