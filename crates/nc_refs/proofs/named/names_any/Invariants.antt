use Rattle.std.proofs.Common.{◌≡◌, drop}
use Rattle.std.specs.List.{list_any}
use Rattle.nc_refs.specs.inner.Named.{names_along}
use Rattle.nc_refs.proofs.named.names_any.Given as goal

abbrev pub invariant-loop-row : goal.invariant-loop-row
invariant-loop-row l =
    list_any (λ row. names_along l.schema l.text row.path.steps) (drop l.row-index l.row-items)
    ≡ list_any (λ row. names_along l.schema l.text row.path.steps) l.config
