use Rattle.std.proofs.Common.{◌≡◌, drop}
use Rattle.nc_message.specs.Resolved.{declared, nothing}
use Rattle.nc_message_read.proofs.start.declared.Given as goal

abbrev pub invariant-loop-attribute : goal.invariant-loop-attribute
invariant-loop-attribute l = declared nothing l.attributes ≡ declared l.said (drop l.attribute-index l.attributes)
