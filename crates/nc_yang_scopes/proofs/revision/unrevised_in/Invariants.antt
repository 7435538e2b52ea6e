use Rattle.std.proofs.Common.{◌≡◌, drop}
use Rattle.std.specs.List.{flat_map}
use Rattle.nc_yang_statements.specs.Rules.{first}
use Rattle.nc_yang_scopes.specs.Revisions.{unrevised_at, unrevised_in}
use Rattle.nc_yang_scopes.proofs.revision.unrevised_in.Given as goal

abbrev pub invariant-loop-statement : goal.invariant-loop-statement
invariant-loop-statement l =
    first (unrevised_in l.scopes.texts l.fn.number l.root)
    ≡ first (flat_map (unrevised_at l.scopes.texts l.fn.number) (drop l.statement-index l.statement-items))
