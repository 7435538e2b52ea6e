use Rattle.std.proofs.Common.{◌≡◌, [], map, take, drop}
use Rattle.nc_protocol.specs.Decoded as decoded
use Rattle.nc_requests.specs.inner.Parameters.{means}
use Rattle.nc_requests.proofs.faults.first_fault.Given as goal

abbrev pub invariant-loop-place : goal.invariant-loop-place
invariant-loop-place l =
    decoded.first_fault (map means l.among) l.elems [] l.elems
    ≡ decoded.first_fault (map means l.among) l.elems (take l.place l.elems) (drop l.place l.elems)
