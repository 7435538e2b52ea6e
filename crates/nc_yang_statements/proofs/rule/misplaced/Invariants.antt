use Rattle.std.proofs.Common.{◌≡◌, drop}
use Rattle.std.specs.List.{flat_map}
use Rattle.nc_yang_statements.specs.Statements.{kind}
use Rattle.nc_yang_statements.specs.Rules.{misplaced, at, why_misplaced}
use Rattle.nc_yang_statements.proofs.rule.misplaced.Given as goal

abbrev pub invariant-loop-below : goal.invariant-loop-below
invariant-loop-below l =
    misplaced l.statement ≡ flat_map (λ t. at (why_misplaced (kind l.statement) (kind t)) t) (drop l.below-index l.below-items)
