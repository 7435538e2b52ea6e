use Rattle.std.proofs.Common.{◌≡◌, drop}
use Rattle.std.specs.Prelude.{[]}
use Rattle.std.specs.List.{flat_map}
use Rattle.nc_yang_statements.specs.Statements.{kind, below}
use Rattle.nc_yang_scopes.specs.Spaces.{renamed, taken}
use Rattle.nc_yang_scopes.proofs.space.renamed.Given as goal

abbrev pub invariant-loop-space : goal.invariant-loop-space
invariant-loop-space l =
    renamed l.statement ≡ flat_map (λ space. taken space (kind l.statement) [] (below l.statement)) (drop l.space-index l.space-items)
