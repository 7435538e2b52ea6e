use Rattle.std.proofs.Common.{◌≡◌, drop}
use Rattle.std.specs.Prelude.{false}
use Rattle.nc_protocol.specs.Attributes.{attributes_fault}
use Rattle.nc_payload.specs.inner.Reads.{meaning}
use Rattle.nc_protocol.specs.Payload.{reading_of}
use Rattle.nc_payload.proofs.attributes.attributes_fault.Given as goal

abbrev pub invariant-loop-attr : goal.invariant-loop-attr
invariant-loop-attr l =
    attributes_fault (reading_of l.schema) l.at (meaning l.named) l.given (drop l.attr-index l.attr-items)
    ≡ attributes_fault (reading_of l.schema) l.at (meaning l.named) false l.named.elem.now.attrs
