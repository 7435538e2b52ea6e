use Rattle.std.proofs.Common.{◌≡◌, ℕ, List, take}
use Rattle.std.specs.List.{All}
use Rattle.nc_yang_statements.specs.Rules.{KeepsRules}
use Rattle.nc_yang.proofs.rules.first_alone.Given as goal

abbrev pub invariant-loop-text : goal.invariant-loop-text
invariant-loop-text l = All KeepsRules (take l.text l.fn.texts)
