use Rattle.std.proofs.Common.{◌≡◌, ◌≤◌, ◌-◌, length, take, []}
use Rattle.std.specs.Prelude.{fold}
use Rattle.nc_protocol.specs.Unchecked.{every_right}
use Rattle.nc_edit.specs.inner.Turns.{turn}
use Rattle.nc_edit.proofs.alone.run_freely.Given as goal

abbrev pub invariant-edits : goal.invariant-edits
invariant-edits l =
    (l.done ≤ length l.edits) ×
    (record { rows = l.config; causes = l.causes }
    ≡ fold (turn l.schema every_right l.goes_on) (record { rows = l.initial.config; causes = [] }) (take l.done l.edits))

abbrev pub decreases-edits : goal.decreases-edits
decreases-edits l = length l.edits - l.done
