-- A script, step by step.
use Rattle.std.specs.Prelude.{◌≡◌, ℕ, List, Option, Some, None, Result, Ok, Err}
use Rattle.nc_model.specs.State.{State}
use Rattle.nc_model.specs.declared.entry.Entry.{Entry}
use Rattle.nc_names.specs.Counts.{Rose}
use Rattle.nc_script.specs.declared.fault.ScriptFault.{ScriptFault}
use Rattle.nc_script.specs.declared.fault.ScriptFault.TheVariants.{BadStep as StepIsBad, Spent as IsSpent, Memory as NoMemory}
use Rattle.nc_script.specs.declared.output.ScriptRun.{ScriptRun}
use Rattle.nc_script_text.specs.Lines.{IsBadAt, IsScript}
use Rattle.nc_script_text.specs.declared.step.ScriptStep.{ScriptStep}
use Rattle.nc_device.specs.Outside.{Filing}
use Rattle.nc_reports.specs.Scripts.{FoundIn, RunsAt}
use Rattle.nc_words.specs.declared.end.RunEnd.{RunEnd}
use Rattle.nc_words.specs.declared.end.RunEnd.TheVariants.{Files, Memory as EndMemory}
use Rattle.nc_words.specs.declared.end.ScriptEnd.{ScriptEnd}
use Rattle.nc_words.specs.declared.end.ScriptEnd.TheVariants.{Absent, BadLine, BadStep, Spent, Memory}

-- the file was asked for, or the files failed, or no memory was found
abbrev pub Finds : List ℕ → (before now : Filing) → Result (Option (List ℕ)) RunEnd → Type 0
Finds file before now (Ok found) = FoundIn before.files file found × (now ≡ before)
Finds file before now (Err Files) = Rose before.failed now.failed × (now ≡ record before { failed = now.failed })
Finds file before now (Err EndMemory) = now ≡ before
Finds file before now (Err end) = ⊥

-- the steps of what was found, or why there are none
abbrev pub Reads : Option (List ℕ) → Result (List ScriptStep) ScriptEnd → Type 0
Reads found (Ok steps) = (text : List ℕ) × (found ≡ Some text) × IsScript text steps
Reads found (Err Absent) = found ≡ None
Reads found (Err (BadLine line)) = (text : List ℕ) × (found ≡ Some text) × IsBadAt text line
Reads found (Err Memory) = Unit {0}
Reads found (Err end) = ⊥

-- the end by which a fault of a script is told
abbrev pub Tells : ScriptFault → ScriptEnd → Type 0
Tells (StepIsBad n) end = end ≡ BadStep n
Tells (IsSpent n) end = end ≡ Spent n
Tells NoMemory end = end ≡ Memory

-- the steps were done, or why not
abbrev pub RunsTo : State → ℕ → (List Entry → Type 0) → List ScriptStep → Result ScriptRun ScriptEnd → Type 0
RunsTo first failed Lasts steps (Ok run) = RunsAt first failed Lasts steps (Ok run)
RunsTo first failed Lasts steps (Err (BadStep n)) = RunsAt first failed Lasts steps (Err (StepIsBad n))
RunsTo first failed Lasts steps (Err (Spent n)) = RunsAt first failed Lasts steps (Err (IsSpent n))
RunsTo first failed Lasts steps (Err Memory) = RunsAt first failed Lasts steps (Err NoMemory)
RunsTo first failed Lasts steps (Err end) = ⊥
