-- No predicate so far is of the key.
use Rattle.std.proofs.Common.{◌≡◌, drop}
use Rattle.std.specs.List.{find}
use Rattle.nc_schema.specs.InstancePaths.{is_of_key}
use Rattle.nc_schema.specs.declared.written.WrittenPredicate.{WrittenPredicate}
use Rattle.nc_paths.proofs.resolve.key_given.Given as goal

abbrev pub invariant-loop-one : goal.invariant-loop-one
invariant-loop-one g l =
    find (λ (one : WrittenPredicate). is_of_key l.schema (g.B.Binds.bound l.bounds) l.number l.key one.key) l.written
    ≡ find (λ (one : WrittenPredicate). is_of_key l.schema (g.B.Binds.bound l.bounds) l.number l.key one.key) (drop l.one-index l.written)
