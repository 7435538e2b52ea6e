use Rattle.std.proofs.Common.{◌≡◌, drop}
use Rattle.nc_yang_statements.specs.Rules.{first}
use Rattle.nc_yang_scopes.specs.Revisions.{unrevised, unrevised_from}
use Rattle.nc_yang_scopes.proofs.revision.first_unrevised.Given as goal

abbrev pub invariant-loop-text : goal.invariant-loop-text
invariant-loop-text l = first (unrevised l.scopes.texts) ≡ first (unrevised_from l.scopes.texts l.text (drop l.text l.scopes.texts))
