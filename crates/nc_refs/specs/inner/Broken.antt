-- What is known of a configuration, and the violation of one row.
use Rattle.std.specs.Prelude.{List, [], ◌∷◌, Option, None, Some, IfSome}
use Rattle.nc_names.specs.declared.cause.CauseKind.{CauseKind}
use Rattle.nc_names.specs.declared.path.Row.{Row}
use Rattle.nc_names.specs.declared.path.Step.{Step}
use Rattle.nc_schema.specs.Tables.{Tables}
use Rattle.nc_schema.specs.declared.violation.Violation.{Violation}
use Rattle.nc_refs.specs.declared.refs.About.{About}
use Rattle.nc_refs.specs.inner.Named.{AllExist}
use Rattle.nc_refs.specs.inner.Referred.{IsKnown}

-- what is known of the rows: which references were looked up, and which nodes exist
pub record IsAbout (tables : Tables) (rows : List Row) (about : About) : Type 0 where
  pub known : IsKnown tables rows about.known
  pub nodes : IfSome about.nodes (AllExist rows)

-- the violation of that kind at the node to which the steps lead, if there is one
abbrev pub fault_of : List Step → Option CauseKind → List Violation
fault_of steps None = []
fault_of steps (Some kind) = record { kind = kind; path = record { steps = steps } } ∷ []
