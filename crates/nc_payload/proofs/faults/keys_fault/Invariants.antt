use Rattle.std.proofs.Common.{◌≡◌, drop, []}
use Rattle.nc_protocol.specs.Faults.{keys_fault}
use Rattle.nc_protocol.specs.Payload.{reading_of}
use Rattle.nc_payload.proofs.faults.keys_fault.Given as goal

abbrev pub invariant-loop-part : goal.invariant-loop-part
invariant-loop-part l =
    keys_fault (reading_of l.schema) l.at l.earlier (drop l.part-index l.part-items) ≡ keys_fault (reading_of l.schema) l.at [] l.parts
