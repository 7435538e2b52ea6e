use Rattle.std.proofs.Common.{◌≡◌, drop, []}
use Rattle.std.specs.Prelude.{fold}
use Rattle.nc_protocol.specs.Edited.{left_by}
use Rattle.nc_payload.proofs.made.one_by_one.Given as goal

abbrev pub invariant-loop-merge : goal.invariant-loop-merge
invariant-loop-merge l =
    fold (left_by l.schema) l.config (drop l.merge-index l.merge-items) ≡ fold (left_by l.schema) [] l.merges
