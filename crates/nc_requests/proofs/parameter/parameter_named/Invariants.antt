use Rattle.std.proofs.Common.{◌≡◌, map, drop}
use Rattle.nc_protocol.specs.Decoded as decoded
use Rattle.nc_requests.specs.inner.Parameters.{means}
use Rattle.nc_requests.proofs.parameter.parameter_named.Given as goal

abbrev pub invariant-loop-parameter : goal.invariant-loop-parameter
invariant-loop-parameter l =
    decoded.parameter_named (map means l.among) l.name ≡ decoded.parameter_named (map means (drop l.parameter-index l.among)) l.name
