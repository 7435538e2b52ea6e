-- What is written, and what is still to be written.
use Rattle.std.proofs.Common.{◌≡◌, ◌++◌, ℕ, List, Option, drop}
use Rattle.std.specs.List.{flat_map, zip}
use Rattle.nc_schema.specs.Values.{given_predicate}
use Rattle.nc_schema.proofs.path_text.write_given.Given as goal

abbrev pub invariant-loop-place : goal.invariant-loop-place
invariant-loop-place l =
    l.out ++ flat_map (λ (pair : ℕ × Option (List ℕ)). given_predicate l.schema l.number pair.0 pair.1) (zip (drop l.place l.keys) (drop l.place l.values))
    ≡ l.fn.out ++ flat_map (λ (pair : ℕ × Option (List ℕ)). given_predicate l.schema l.number pair.0 pair.1) (zip l.keys l.values)
