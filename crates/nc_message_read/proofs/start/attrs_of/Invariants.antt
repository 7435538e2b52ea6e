use Rattle.std.proofs.Common.{◌≡◌, drop}
use Rattle.nc_message.specs.Resolved.{attrs_of}
use Rattle.nc_message.specs.Texts.{onto}
use Rattle.nc_message_read.proofs.start.attrs_of.Given as goal

abbrev pub invariant-loop-attribute : goal.invariant-loop-attribute
invariant-loop-attribute l = attrs_of l.bounds l.attributes ≡ onto l.attrs (attrs_of l.bounds (drop l.attribute-index l.attributes))
