-- Edits one after another, under an error-option (RFC 6241 7.2, 8.5).
use Rattle.std.specs.Prelude.{Bool, true, false, if◌then◌else◌, List, [], ◌∷◌, ◌++◌, Result, Ok, Err, fold}
use Rattle.nc_names.specs.declared.path.Path.{Path}
use Rattle.nc_names.specs.declared.path.Right.{Right}
use Rattle.nc_names.specs.declared.path.Row.{Row}
use Rattle.nc_schema.specs.Tables.{Tables}
use Rattle.nc_protocol.specs.declared.access.Decision.{Decision}
use Rattle.nc_protocol.specs.declared.asked.ErrorOption.{ErrorOption}
use Rattle.nc_protocol.specs.declared.asked.ErrorOption.TheVariants.{Stop, Continue, Rollback}
use Rattle.nc_protocol.specs.declared.edit.Edit.{Edit}
use Rattle.nc_protocol.specs.declared.request.Cause.{Cause}
use Rattle.nc_protocol.specs.Edited.{edited}

-- no edit was refused
abbrev pub is_empty : List Cause → Bool
is_empty [] = true
is_empty (cause ∷ more) = false

-- what edits leave, and why some of them are refused
pub record Applied : Type 0 where
  pub rows : List Row
  pub causes : List Cause

-- an edit that is made, or is refused
abbrev pub with_result : Applied → Result (List Row) Cause → Applied
with_result so_far (Ok rows) = record so_far { rows = rows }
with_result so_far (Err cause) = record so_far { causes = so_far.causes ++ cause ∷ [] }

-- the next edit; a refused one is skipped
abbrev pub continued : Tables → (Path → Right → Decision) → Applied → Edit → Applied
continued tables rights so_far edit = with_result so_far (edited tables rights so_far.rows edit)

-- the next edit, unless one was refused
abbrev pub stopped : Tables → (Path → Right → Decision) → Applied → Edit → Applied
stopped tables rights so_far edit = if is_empty so_far.causes then continued tables rights so_far edit else so_far

-- the rows at the start, where an edit was refused
abbrev pub rolled_back : List Row → Applied → Applied
rolled_back rows so_far = if is_empty so_far.causes then so_far else record so_far { rows = rows }

-- all edits, in their order
abbrev pub applied : Tables → (Path → Right → Decision) → ErrorOption → List Row → List Edit → Applied
applied tables rights Stop rows edits = fold (stopped tables rights) (record { rows = rows; causes = [] }) edits
applied tables rights Continue rows edits = fold (continued tables rights) (record { rows = rows; causes = [] }) edits
applied tables rights Rollback rows edits =
    rolled_back rows (fold (stopped tables rights) (record { rows = rows; causes = [] }) edits)
