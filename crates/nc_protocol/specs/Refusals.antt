-- Causes, and what they make of a verdict (RFC 6241 4.3).
use Rattle.std.specs.Prelude.{ℕ, List, [], ◌∷◌, Option, Some, None, option_map, Result, Err, slice_get}
use Rattle.nc_names.specs.declared.cause.CauseKind.{CauseKind}
use Rattle.nc_names.specs.declared.cause.CauseKind.TheVariants.{MandatoryChoice}
use Rattle.nc_names.specs.declared.path.Path.{Path}
use Rattle.nc_names.specs.declared.path.Row.{Row}
use Rattle.nc_schema.specs.declared.violation.Violation.{Violation}
use Rattle.nc_schema.specs.Tables.{Tables}
use Rattle.nc_schema.specs.Violations.{violations}
use Rattle.nc_protocol.specs.declared.datastore.Datastore.{Datastore}
use Rattle.nc_protocol.specs.declared.datastore.Datastore.TheVariants.{Running, Candidate, Startup, Url}
use Rattle.nc_protocol.specs.declared.request.Cause.{Cause}
use Rattle.nc_protocol.specs.declared.verdict.Verdict.{Verdict}
use Rattle.nc_protocol.specs.declared.verdict.Verdict.TheVariants.{Done, Refused}
use Rattle.nc_protocol.specs.Asking.{plain_cause}
use Rattle.nc_protocol.specs.Attributes.{path_of}
use Rattle.nc_protocol.specs.Words.{running_word, candidate_word, startup_word, url_word}

-- refused for one cause that is about no data node
abbrev pub refused_for : CauseKind → List (List ℕ) → Verdict
refused_for kind names = Refused (plain_cause kind names ∷ [])

-- the verdict, unless a check fails
abbrev pub checked : Option Cause → Verdict → Verdict
checked None verdict = verdict
checked (Some cause) verdict = Refused (cause ∷ [])

-- the result, unless a check fails
abbrev pub result_unless : {A : Type 0} → Option Cause → Result A Cause → Result A Cause
result_unless None result = result
result_unless (Some cause) result = Err cause

-- done, unless there are causes
abbrev pub done_unless : List Cause → Verdict
done_unless [] = Done
done_unless causes = Refused causes

-- the name of a datastore (RFC 6241 5.1, 8.3, 8.7), or of a URL in its place (RFC 6241 8.8)
abbrev pub datastore_name : Datastore → List ℕ
datastore_name Running = running_word
datastore_name Candidate = candidate_word
datastore_name Startup = startup_word
datastore_name Url = url_word

-- the node at which a constraint is broken. A mandatory choice at the top level of the data tree has none above it
-- (RFC 7950 15.6)
abbrev pub broken_at : CauseKind → Path → Option Path
broken_at MandatoryChoice above = path_of above.steps
broken_at kind path = Some path

-- the first violation of a configuration, as a cause (RFC 7950 8.3.3, 15)
abbrev pub violation_cause : Violation → Cause
violation_cause violation =
    record { kind = violation.kind; path = broken_at violation.kind violation.path; names = [] }

-- the first violation of rows, as a cause
abbrev pub violation_in : Tables → List Row → Option Cause
violation_in tables rows = option_map violation_cause (slice_get (violations tables rows) 0)
