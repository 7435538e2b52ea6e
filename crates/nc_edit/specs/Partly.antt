-- What several edits leave where they are not all made.
use Rattle.std.specs.Prelude.{◌≡◌, ℕ, List, take}
use Rattle.nc_names.specs.declared.path.Path.{Path}
use Rattle.nc_names.specs.declared.path.Right.{Right}
use Rattle.nc_names.specs.declared.path.Row.{Row}
use Rattle.nc_schema.specs.Tables.{Tables}
use Rattle.nc_protocol.specs.Applied.{applied}
use Rattle.nc_protocol.specs.declared.access.Decision.{Decision}
use Rattle.nc_protocol.specs.declared.asked.ErrorOption.{ErrorOption}
use Rattle.nc_protocol.specs.declared.asked.ErrorOption.TheVariants.{Rollback}
use Rattle.nc_protocol.specs.declared.edit.Edit.{Edit}

-- the rows that the first edits leave, however many these are; and where a refusal is to undo all, the rows at the
-- start
abbrev pub LeavesPart : Tables → (Path → Right → Decision) → ErrorOption → List Row → List Edit → List Row → Type 0
LeavesPart tables rights Rollback before edits now = now ≡ before
LeavesPart tables rights on_error before edits now =
    (count : ℕ) × (now ≡ (applied tables rights on_error before (take count edits)).rows)
