-- The server that the folder of a device makes, and why it makes none.
use Rattle.std.specs.Prelude.{◌≡◌, ◌+◌, ℕ, List, [], Some, slice_get}
use Rattle.std.specs.List.{All}
use Rattle.std.specs.Option.{option_map, option_map_or}
use Rattle.nc_protocol.specs.declared.request.Cause.{Cause}
use Rattle.nc_schema.specs.PathTexts.{path_text_of}
use Rattle.nc_schema.specs.Tables.{Tables}
use Rattle.nc_schema.specs.Violations.{IsValid}
use Rattle.nc_yang_leafs.specs.Patterns.{Refusals}
use Rattle.nc_yang.specs.Features.{IsFirstUnknown, NamesFeature}
use Rattle.nc_yang.specs.Schemas.{Defines, GivesNone}
use Rattle.nc_yang.specs.declared.text.ModuleText.{ModuleText}
use Rattle.nc_setup.specs.Initial.{IsInitial, IsRefusedFor, IsUnread}
use Rattle.nc_setup.specs.declared.fault.SetupFault.{SetupFault}
use Rattle.nc_setup.specs.declared.fault.SetupFault.TheVariants.{Module, Feature, Unread, Invalid, Memory}
use Rattle.nc_setup.specs.declared.folder.Contents.{Contents}
use Rattle.nc_setup.specs.declared.setup.Setup.{Setup}

-- the modules define this schema where the features are on, and each of these is a feature of them
pub record HasSchema (contents : Contents) (schema : Tables) : Type 0 where
  pub defines : Defines contents.modules contents.features schema
  pub features : All (NamesFeature contents.modules) contents.features

-- it makes this server: running is the initial configuration, and is valid (RFC 7950 8.1)
pub record IsSetup (contents : Contents) (it : Setup) : Type 0 where
  pub schema : HasSchema contents it.schema
  pub initial : IsInitial it.schema contents.initial it.running
  pub valid : IsValid it.schema it.running

-- the name of the file of that number
abbrev pub file_name : List ModuleText → ℕ → List ℕ
file_name modules file = option_map_or (λ text. text.file) (slice_get modules file) []

-- Why it makes none, where a maker of patterns has refused that: the first of these that is so.
abbrev pub IsRefused : Contents → Refusals → SetupFault → Type 0
-- the modules define no schema, or the maker refused one of their patterns
IsRefused contents refusals (Module file line why) =
    (number : ℕ) × (file ≡ file_name contents.modules number)
    × GivesNone contents.modules contents.features refusals number (record { line = line; why = why })
-- the first line of the features, counted from 1, that names none
IsRefused contents refusals (Feature line) =
    (schema : Tables) × Defines contents.modules contents.features schema
    × (place : ℕ) × IsFirstUnknown contents.modules contents.features place × (line ≡ place + 1)
-- the initial configuration is not read, from that place on
IsRefused contents refusals (Unread at) =
    (schema : Tables) × HasSchema contents schema
    × (text : List ℕ) × (contents.initial ≡ Some text) × IsUnread text at
-- it is refused, for that cause, which is about that path
IsRefused contents refusals (Invalid kind path) =
    (schema : Tables) × HasSchema contents schema
    × (cause : Cause) × IsRefusedFor schema contents.initial cause
    × (kind ≡ cause.kind) × (path ≡ option_map (path_text_of schema) cause.path)
IsRefused contents refusals Memory = Unit {0}
