use Rattle.std.proofs.Common.{◌≡◌, drop, not}
use Rattle.std.specs.Prelude.{is_some}
use Rattle.std.specs.List.{find}
use Rattle.nc_protocol.specs.Elements.{first_child}
use Rattle.nc_payload.specs.inner.Reads.{meaning}
use Rattle.nc_protocol.specs.Payload.{reading_of}
use Rattle.nc_payload.proofs.faults.missing_key.Given as goal

abbrev pub invariant-loop-key : goal.invariant-loop-key
invariant-loop-key l =
    find (λ key. not (is_some (first_child (reading_of l.schema) (meaning l.named) key))) (drop l.key-index l.key-items)
    ≡ find (λ key. not (is_some (first_child (reading_of l.schema) (meaning l.named) key))) l.named.node.now.keys
