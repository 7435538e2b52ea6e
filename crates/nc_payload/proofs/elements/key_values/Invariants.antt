use Rattle.std.proofs.Common.{◌≡◌, ◌++◌, drop}
use Rattle.std.specs.Prelude.{option_map}
use Rattle.nc_protocol.specs.Elements.{key_values}
use Rattle.nc_payload.specs.inner.Reads.{meaning}
use Rattle.nc_protocol.specs.Payload.{reading_of}
use Rattle.nc_payload.proofs.elements.key_values.Given as goal

abbrev pub invariant-loop-key : goal.invariant-loop-key
invariant-loop-key l =
    option_map (λ rest. l.values ++ rest) (key_values (reading_of l.schema) (meaning l.entry) (drop l.key-index l.key-items))
    ≡ key_values (reading_of l.schema) (meaning l.entry) l.keys
