use Rattle.std.proofs.Common.{◌≡◌, drop}
use Rattle.std.specs.List.{list_any}
use Rattle.nc_yang_nodes.specs.Denials.{says_it}
use Rattle.nc_yang_nodes.proofs.denial.has_said.Given as goal

abbrev pub invariant-loop-statement : goal.invariant-loop-statement
invariant-loop-statement l =
    list_any (says_it l.scopes.texts l.text l.deny) l.among
    ≡ list_any (says_it l.scopes.texts l.text l.deny) (drop l.statement-index l.among)
