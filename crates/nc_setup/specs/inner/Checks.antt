-- What the steps to a server find.
use Rattle.std.specs.Prelude.{◌≡◌, ℕ, List}
use Rattle.std.specs.Option.{option_map}
use Rattle.nc_protocol.specs.declared.request.Cause.{Cause}
use Rattle.nc_schema.specs.PathTexts.{path_text_of}
use Rattle.nc_schema.specs.Tables.{Tables}
use Rattle.nc_yang_statements.specs.declared.fault.ModuleWhy.{ModuleWhy}
use Rattle.nc_yang.specs.declared.text.ModuleText.{ModuleText}
use Rattle.nc_setup.specs.Setup.{file_name}
use Rattle.nc_setup.specs.declared.fault.SetupFault.{SetupFault}
use Rattle.nc_setup.specs.declared.fault.SetupFault.TheVariants.{Module, Invalid, Memory}

-- the fault tells a broken rule in the file of that number
abbrev pub TellsModule : List ModuleText → ℕ → ℕ → ModuleWhy → SetupFault → Type 0
TellsModule modules number line why (Module file at what) =
    (file ≡ file_name modules number) × (at ≡ line) × (what ≡ why)
TellsModule modules number line why Memory = Unit {0}
TellsModule modules number line why fault = ⊥

-- the fault tells this cause
abbrev pub TellsCause : Tables → Cause → SetupFault → Type 0
TellsCause schema cause (Invalid kind path) =
    (kind ≡ cause.kind) × (path ≡ option_map (path_text_of schema) cause.path)
TellsCause schema cause Memory = Unit {0}
TellsCause schema cause fault = ⊥
