use Rattle.std.proofs.Common.{false, take}
use Rattle.std.specs.List.{All}
use Rattle.nc_yang_scopes.specs.States.{KeepsState}
use Rattle.nc_yang.proofs.rules.first_in_state.Given as goal

abbrev pub invariant-loop-text : goal.invariant-loop-text
invariant-loop-text l = All (KeepsState false) (take l.text l.fn.texts)
