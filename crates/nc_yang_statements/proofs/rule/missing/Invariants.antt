use Rattle.std.proofs.Common.{◌≡◌, drop}
use Rattle.std.specs.Prelude.{◌&&◌, not}
use Rattle.std.specs.List.{flat_map}
use Rattle.nc_yang_statements.specs.declared.fault.ModuleWhy.TheVariants.{Missing}
use Rattle.nc_yang_statements.specs.Places.{is_once, count_of}
use Rattle.nc_yang_statements.specs.Statements.{kind, below, has}
use Rattle.nc_yang_statements.specs.Rules.{missing, at_if}
use Rattle.nc_yang_statements.proofs.rule.missing.Given as goal

abbrev pub invariant-loop-keyword : goal.invariant-loop-keyword
invariant-loop-keyword l =
    missing l.statement
    ≡ flat_map (λ k. at_if (is_once (count_of (kind l.statement) k) && not (has k (below l.statement))) l.statement Missing) (drop l.keyword-index l.keyword-items)
