use Rattle.std.proofs.Common.{◌≡◌, take}
use Rattle.std.specs.List.{flat_map}
use Rattle.nc_protocol.specs.Elements.{text_of}
use Rattle.nc_protocol.proofs.content.whole_text.Given as goal

-- the texts of the parts so far
abbrev pub invariant-loop-part : goal.invariant-loop-part
invariant-loop-part l = l.text ≡ flat_map text_of (take l.part-index l.parts)
