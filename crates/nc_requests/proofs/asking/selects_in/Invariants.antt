use Rattle.std.proofs.Common.{◌≡◌, take}
use Rattle.nc_requests.specs.inner.Parameters.{selects_among}
use Rattle.nc_requests.proofs.asking.selects_in.Given as goal

abbrev pub invariant-loop-elem : goal.invariant-loop-elem
invariant-loop-elem l = l.selects ≡ selects_among (take l.elem-index l.elems)
