-- Those so far, and those of the rest.
use Rattle.std.proofs.Common.{◌≡◌, ◌++◌, drop}
use Rattle.std.specs.List.{filter}
use Rattle.nc_yang_types.specs.inner.Known.{has_text}
use Rattle.nc_yang_types.proofs.choice.named_in.Given as goal

abbrev pub invariant-loop-named : goal.invariant-loop-named
invariant-loop-named l = l.kept ++ filter (λ n. has_text l.set n.name) (drop l.named-index l.names) ≡ filter (λ n. has_text l.set n.name) l.names
