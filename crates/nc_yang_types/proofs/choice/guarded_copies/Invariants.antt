-- Those so far.
use Rattle.std.proofs.Common.{◌≡◌, map, take}
use Rattle.nc_yang_types.specs.Members.{guarded_by}
use Rattle.nc_yang_types.specs.inner.Known.{has_text}
use Rattle.nc_yang_types.proofs.choice.guarded_copies.Given as goal

abbrev pub invariant-loop-named : goal.invariant-loop-named
invariant-loop-named l = l.all ≡ map (guarded_by (has_text l.set)) (take l.named-index l.names)
