use Rattle.std.proofs.Common.{◌≡◌, take}
use Rattle.std.specs.Prelude.{fold}
use Rattle.nc_protocol.specs.ModuleNames as names
use Rattle.nc_print.proofs.paths.push_values.Given as goal

-- the names in the values so far are bound
abbrev pub invariant-loop-value : goal.invariant-loop-value
invariant-loop-value l =
    l.bounds ≡ fold (λ before value. names.with_value l.schema before l.number value) l.initial.bounds (take l.value-index l.values)
