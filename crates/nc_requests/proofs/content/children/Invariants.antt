use Rattle.std.proofs.Common.{◌≡◌}
use Rattle.nc_protocol.specs.Content as content
use Rattle.nc_requests.proofs.content.children.Given as goal

abbrev pub invariant-loop-part : goal.invariant-loop-part
invariant-loop-part l = l.elems ≡ content.children l.yielded
