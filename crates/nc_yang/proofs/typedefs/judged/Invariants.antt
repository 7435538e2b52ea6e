-- Those of the typedefs before.
use Rattle.std.proofs.Common.{ℕ, List, take}
use Rattle.std.specs.Prelude.{Bool}
use Rattle.nc_yang_nodes.specs.Picks.{PicksNumbers}
use Rattle.nc_yang_types.specs.Plans.{AreMeanings}
use Rattle.nc_yang.specs.Typedefs.{IsJudged, typedefs}
use Rattle.nc_yang.proofs.typedefs.judged.Given as goal

abbrev pub invariant-loop-number : goal.invariant-loop-number
invariant-loop-number l =
    (on : ℕ → List ℕ → Bool) → AreMeanings on l.scopes l.meanings →
    PicksNumbers l.scopes.located (IsJudged on l.scopes.texts) (take l.number-index (typedefs l.scopes.texts)) l.kept
