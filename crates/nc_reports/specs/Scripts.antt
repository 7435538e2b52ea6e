-- What the program makes of a script, at a server of its own.
use Rattle.std.specs.Prelude.{◌≡◌, ◌++◌, ℕ, List, [], Option, Some, None, Result, Ok, Err, IfSome}
use Rattle.nc_machine.specs.Lasting.{Lasting, lasting}
use Rattle.nc_machine.specs.Serving.{Serving}
use Rattle.nc_model.specs.State.{State}
use Rattle.nc_model.specs.declared.entry.Entry.{Entry}
use Rattle.nc_outside.specs.Folders.{file_of}
use Rattle.nc_outside.specs.declared.files.NamedFile.{NamedFile}
use Rattle.nc_script.specs.Runs as scripts
use Rattle.nc_script.specs.Runs.{AllDone, WasBad, WasSpent, HadNoMemory as RanOut, HadNoRoom}
use Rattle.nc_script.specs.declared.fault.ScriptFault.{ScriptFault}
use Rattle.nc_script.specs.declared.fault.ScriptFault.TheVariants.{BadStep as StepIsBad, Spent as IsSpent, Memory as NoMemory}
use Rattle.nc_script.specs.declared.output.ScriptRun.{ScriptRun}
use Rattle.nc_script_text.specs.Lines.{IsBadAt, IsScript}
use Rattle.nc_script_text.specs.declared.step.ScriptStep.{ScriptStep}
use Rattle.nc_words.specs.Notes.{Told}
use Rattle.nc_reports.specs.Outputs.{outputs_text}
use Rattle.nc_words.specs.Printing.{IsPrinted}
use Rattle.nc_words.specs.declared.end.ScriptEnd.{ScriptEnd}
use Rattle.nc_words.specs.declared.end.ScriptEnd.TheVariants.{Absent, BadLine, BadStep, Spent, Memory, Done}

-- where the files are told, this is what they have under that name
abbrev pub FoundIn : Option (List NamedFile) → List ℕ → Option (List ℕ) → Type 0
FoundIn files file found = IfSome files (λ fs. found ≡ file_of fs file)

-- nothing is said of crashes
abbrev pub unsaid : Lasting (Unit {0})
unsaid = lasting (λ k. None) (λ k. 0) (λ k t among. Unit {0}) (λ old new. Unit {0})

-- the entries that the steps made
abbrev pub made_by : {K : Type 0} → (words : Lasting K) → (steps : List ScriptStep) → (old new : Serving K) →
    (result : Result ScriptRun ScriptFault) → scripts.Runs words steps old new result → List Entry
made_by words steps old new result (AllDone entries board run does goes gives) = entries
made_by words steps old new result (WasBad entries step board n reaches bad goes) = entries
made_by words steps old new result (WasSpent entries part step board n reaches due goes full) = entries ++ part
made_by words steps old new result (RanOut entries part last step board n reaches begun read goes) =
    entries ++ (part ++ last)
made_by words steps old new result (HadNoRoom entries board does goes) = entries

-- the steps came to that, at a server that begins in that state, whose disk has failed so often at the end; and so much
-- of what they made lasts over a crash
pub record RunsAt (first : State) (failed : ℕ) (Lasts : List Entry → Type 0) (steps : List ScriptStep)
    (result : Result ScriptRun ScriptFault) : Type 0 where
  pub old : Serving (Unit {0})
  pub new : Serving (Unit {0})
  pub state_is : old.state ≡ first
  pub count_is : old.count ≡ 0
  pub runs : scripts.Runs unsaid steps old new result
  pub faults : new.state.faults ≡ failed
  pub lasts : Lasts (made_by unsaid steps old new result runs)

-- What steps came to, once they are known: each was done, and then the text of what that gave was printed; or one
-- cannot be done; or the server has no number for an entry of it; or no memory was found.
abbrev pub Comes : (text_of : ScriptRun → List ℕ) → State → ℕ → (List Entry → Type 0) → List ScriptStep →
    (before now : Told) → ScriptEnd → Type 0
Comes text_of first failed Lasts steps before now (BadStep n) =
    RunsAt first failed Lasts steps (Err (StepIsBad n)) × (now ≡ before)
Comes text_of first failed Lasts steps before now (Spent n) =
    RunsAt first failed Lasts steps (Err (IsSpent n)) × (now ≡ before)
Comes text_of first failed Lasts steps before now (Done printed) =
    (run : ScriptRun) × RunsAt first failed Lasts steps (Ok run) × IsPrinted (text_of run) before now printed
Comes text_of first failed Lasts steps before now Memory =
    RunsAt first failed Lasts steps (Err NoMemory) × (now ≡ before)
Comes text_of first failed Lasts steps before now end = ⊥

-- the text of all outputs that a run gave
abbrev pub all_outputs : ScriptRun → List ℕ
all_outputs run = outputs_text run.outputs

-- What came of a script, of which this was found. Where no step was done, nothing was made, and no disk fault was met.
pub data Scripts (first : State) (failed : ℕ) (Lasts : List Entry → Type 0) (found : Option (List ℕ))
    (before now : Told) : ScriptEnd → Type 0 where
  -- there is none
  IsAbsent : found ≡ None → now ≡ before → Lasts [] → first.faults ≡ failed
      → Scripts first failed Lasts found before now Absent
  -- a line of it is no step
  HasBadLine : (text : List ℕ) (line : ℕ) → found ≡ Some text → IsBadAt text line → now ≡ before → Lasts []
      → first.faults ≡ failed → Scripts first failed Lasts found before now (BadLine line)
  -- no memory was found for its steps
  HadNoMemory : now ≡ before → Lasts [] → first.faults ≡ failed → Scripts first failed Lasts found before now Memory
  -- its steps came to that
  HasSteps : (text : List ℕ) (steps : List ScriptStep) (end : ScriptEnd) → found ≡ Some text → IsScript text steps
      → Comes all_outputs first failed Lasts steps before now end → Scripts first failed Lasts found before now end
