-- The faults that are left.
use Rattle.std.proofs.Common.{◌≡◌, drop}
use Rattle.std.specs.List.{flat_map}
use Rattle.nc_yang_statements.specs.Rules.{first}
use Rattle.nc_yang_data.specs.Conditions.{key_conditions}
use Rattle.nc_yang_data.proofs.conditions.first_of_keys.Given as goal

abbrev pub invariant-loop-key : goal.invariant-loop-key
invariant-loop-key l =
    first (flat_map (key_conditions l.scopes l.plan) l.keys)
    ≡ first (flat_map (key_conditions l.scopes l.plan) (drop l.key-index l.keys))
