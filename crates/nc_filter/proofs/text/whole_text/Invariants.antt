use Rattle.std.proofs.Common.{◌≡◌, take}
use Rattle.std.specs.List.{flat_map}
use Rattle.nc_protocol.specs.Elements.{text_of}
use Rattle.nc_filter.proofs.text.whole_text.Given as goal

abbrev pub invariant-loop-part : goal.invariant-loop-part
invariant-loop-part l = l.text ≡ flat_map text_of (take l.part-index l.parts)
