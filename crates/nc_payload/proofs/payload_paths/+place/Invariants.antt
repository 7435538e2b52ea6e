use Rattle.std.proofs.Common.{take}
use Rattle.std.specs.List.{flat_map}
use Rattle.nc_protocol.specs.Payload.{part_places, reading_of}
use Rattle.nc_payload.specs.inner.Places.{AddsPlaces, HasAbove}
use Rattle.nc_payload.proofs.payload_paths.+place.Given as goal

-- the places so far are those of the parts so far
abbrev pub invariant-add_parts-loop-part : goal.invariant-add_parts-loop-part
invariant-add_parts-loop-part l =
    HasAbove l.fn.places l.above → AddsPlaces l.fn.places l.places (flat_map (part_places (reading_of l.schema) l.above l.parent) (take l.part-index l.part-items))
