use Rattle.std.proofs.Common.{◌≡◌, List, take}
use Rattle.std.specs.Prelude.{Some, slice_get}
use Rattle.nc_yang_scopes.specs.Numbers.{AreNumbers}
use Rattle.nc_yang_scopes.specs.Scopes.{Located}
use Rattle.nc_yang_nodes.specs.Picks.{PicksNumbers}
use Rattle.nc_yang_nodes.specs.Values.{IsUnder}
use Rattle.nc_yang_nodes.proofs.identities.Identities.under.Given as goal

abbrev pub invariant-loop-number : goal.invariant-loop-number
invariant-loop-number l =
    (base : Located) → slice_get l.self.located l.base ≡ Some base → (ls : List Located) → AreNumbers l.self.located l.numbers ls
    → PicksNumbers l.self.located (IsUnder l.self.texts base) (take l.number-index ls) l.kept
