-- A load test: the generated script at a server in memory, over a module of its own.
use Rattle.std.specs.Prelude.{◌≡◌, ℕ, List, [], ◌∷◌, ◌++◌, codes, None}
use Rattle.nc_model.specs.State.{opening}
use Rattle.nc_model.specs.declared.entry.Entry.{Entry}
use Rattle.nc_script.specs.Load.{load_steps}
use Rattle.nc_setup.specs.Setup.{IsRefused, IsSetup}
use Rattle.nc_setup.specs.declared.folder.Contents.{Contents}
use Rattle.nc_setup.specs.declared.setup.Setup.{Setup as Server}
use Rattle.nc_reports.specs.Counts.{load_line}
use Rattle.nc_words.specs.Notes.{Told}
use Rattle.nc_device.specs.Outside.{Making, refusals_of}
use Rattle.nc_reports.specs.Scripts.{Comes}
use Rattle.nc_words.specs.declared.end.RunEnd.{RunEnd}
use Rattle.nc_words.specs.declared.end.RunEnd.TheVariants.{Memory, Script, Setup}
use Rattle.nc_words.specs.declared.end.ScriptEnd.{ScriptEnd}

-- the module whose ports the script merges, and its file's name
unfoldable pub load_module : List ℕ
load_module =
    codes "module ex {\n  namespace \"urn:ex\";\n  prefix ex;\n  revision 2024-01-01;\n  container top {\n"
    ++ codes "    leaf host { type string; }\n    list port {\n      key name;\n      unique tag;\n"
    ++ codes "      leaf name { type string; }\n      leaf tag { type uint16; }\n    }\n"
    ++ codes "    leaf up { type leafref { path \"../port/name\"; } }\n  }\n}\n"

-- the name of its file
unfoldable pub load_file : List ℕ
load_file = codes "ex.yang"

-- a device with that module alone, whose initial configuration is empty
abbrev pub load_contents : Contents
load_contents = record {
  modules = record { file = load_file; bytes = load_module } ∷ [];
  features = [];
  initial = None;
}

-- of a server in memory nothing is said of crashes
abbrev pub nothing_lasts : List Entry → Type 0
nothing_lasts entries = Unit {0}

-- the script came to that, at the server of this device before its first event, whose keeper never fails
pub record LoadsAt (edits : ℕ) (before now : Told) (end : ScriptEnd) : Type 0 where
  pub server : Server
  pub setup : IsSetup load_contents server
  pub comes : Comes (load_line edits) (opening server.schema server.running 0) 0 nothing_lasts (load_steps edits) before
      now end

-- What a load test with so many edits came to: the script's end; or its device makes no server; or no memory was found
-- for them.
abbrev pub Loads : ℕ → (making later : Making) → (before now : Told) → RunEnd → Type 0
Loads edits making later before now (Script end) = LoadsAt edits before now end
Loads edits making later before now (Setup fault) =
    IsRefused load_contents (refusals_of making later) fault × (now ≡ before)
Loads edits making later before now Memory = now ≡ before
Loads edits making later before now end = ⊥
