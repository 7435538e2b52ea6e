-- No binding so far is of the prefix.
use Rattle.std.proofs.Common.{◌≡◌, drop}
use Rattle.nc_names.specs.Bindings.{space_of}
use Rattle.nc_names.proofs.bindings.ManyBoundBinds.space_of.Given as goal

abbrev pub invariant-loop-bound : goal.invariant-loop-bound
invariant-loop-bound l = space_of l.prefix l.self ≡ space_of l.prefix (drop l.bound-index l.bound-items)
