use Rattle.std.proofs.Common.{◌≡◌, [], drop}
use Rattle.std.specs.Prelude.{Ok}
use Rattle.nc_protocol.specs.Payload.{list_edits, with_more}
use Rattle.nc_protocol.specs.Payload.{reading_of}
use Rattle.nc_payload.proofs.payload.+read.Given as goal

-- the edits so far, and then those of the parts that are left, are the edits of all
abbrev pub invariant-read_parts-loop-part : goal.invariant-read_parts-loop-part
invariant-read_parts-loop-part l =
    with_more (Ok l.edits) (list_edits (reading_of l.schema) l.at l.earlier (drop l.part-index l.part-items)) ≡ list_edits (reading_of l.schema) l.at [] l.parts
