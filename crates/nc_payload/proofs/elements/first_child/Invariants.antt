use Rattle.std.proofs.Common.{◌≡◌, drop}
use Rattle.std.specs.Prelude.{◌==◌, Some}
use Rattle.std.specs.List.{find, filter_map}
use Rattle.nc_protocol.specs.Elements.{named_part, first_child}
use Rattle.nc_payload.specs.inner.Reads.{meaning}
use Rattle.nc_protocol.specs.Payload.{reading_of}
use Rattle.nc_payload.proofs.elements.first_child.Given as goal

abbrev pub invariant-loop-part : goal.invariant-loop-part
invariant-loop-part l =
    find (λ child. child.number == l.number) (filter_map (named_part (reading_of l.schema) (Some l.entry.number)) (drop l.part-index l.part-items))
    ≡ first_child (reading_of l.schema) (meaning l.entry) l.number
