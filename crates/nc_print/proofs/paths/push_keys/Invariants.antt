use Rattle.std.proofs.Common.{◌≡◌, take, length}
use Rattle.std.specs.Prelude.{fold}
use Rattle.std.specs.List.{zip}
use Rattle.nc_protocol.specs.ModuleNames as names
use Rattle.nc_print.proofs.paths.push_keys.Given as goal

-- the names of the keys so far are bound
abbrev pub invariant-loop-key : goal.invariant-loop-key
invariant-loop-key l =
    l.bounds ≡ fold (names.with_key l.schema) l.initial.bounds (take (length l.yielded) (zip l.keys l.values))
