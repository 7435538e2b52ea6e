use Rattle.std.proofs.Common.{◌≡◌, ◌++◌, take, length}
use Rattle.std.specs.List.{flat_map, zip}
use Rattle.nc_schema.specs.PathTexts.{key_predicate}
use Rattle.nc_schema.proofs.path_text.write_keys.Given as goal

-- the predicates of the keys so far stand there
abbrev pub invariant-loop-key : goal.invariant-loop-key
invariant-loop-key l =
    l.out ≡ l.initial.out ++ flat_map (λ pair. key_predicate l.schema pair.0 pair.1) (take (length l.yielded) (zip l.keys l.values))
