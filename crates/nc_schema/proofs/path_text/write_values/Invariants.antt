use Rattle.std.proofs.Common.{◌≡◌, ◌++◌, take}
use Rattle.std.specs.List.{flat_map}
use Rattle.nc_schema.specs.PathTexts.{value_predicate}
use Rattle.nc_schema.proofs.path_text.write_values.Given as goal

-- the predicates of the values so far stand there
abbrev pub invariant-loop-value : goal.invariant-loop-value
invariant-loop-value l = l.out ≡ l.initial.out ++ flat_map value_predicate (take l.value-index l.values)
