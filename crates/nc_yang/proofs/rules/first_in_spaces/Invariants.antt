use Rattle.std.proofs.Common.{◌≡◌, ℕ, List, take}
use Rattle.std.specs.List.{All}
use Rattle.nc_yang_scopes.specs.Spaces.{KeepsSpaces}
use Rattle.nc_yang.proofs.rules.first_in_spaces.Given as goal

abbrev pub invariant-loop-text : goal.invariant-loop-text
invariant-loop-text l = All KeepsSpaces (take l.text l.fn.texts)
