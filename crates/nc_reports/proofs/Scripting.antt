-- A script at a server of its own.
use Rattle.std.proofs.Common.{◌≡◌, ◌≤◌, ◌+◌, ℕ, List, [], ◌∷◌, ◌++◌, length, Option, Result, Ok, Err, refl, sym, ap, subst, ◌∙◌, arith, length-append}
use Rattle.nc_machine.proofs.Stood.{goes_nowhere}
use Rattle.nc_machine.specs.Lasting.{Lasting}
use Rattle.nc_machine.specs.Serving.{GoesOn, Serving}
use Rattle.nc_model.proofs.HistoryLemmas.{histories_join, legal_histories_join}
use Rattle.nc_model.proofs.SurvivingLemmas.{survives_by}
use Rattle.nc_model.specs.History.{IsLegal, Survives, after, doubts_after}
use Rattle.nc_model.specs.State.{State}
use Rattle.nc_model.specs.Step.{next}
use Rattle.nc_model.specs.declared.entry.Entry.{Entry}
use Rattle.nc_names.specs.declared.path.Row.{Row}
use Rattle.nc_script.specs.Runs as scripts
use Rattle.nc_script.specs.Runs.{AllDone, WasBad, WasSpent, HadNoMemory as RanOut, HadNoRoom}
use Rattle.nc_script.specs.declared.fault.ScriptFault.{ScriptFault}
use Rattle.nc_script.specs.declared.fault.ScriptFault.TheVariants.{BadStep as StepIsBad, Spent as IsSpent, Memory as NoMemory}
use Rattle.nc_script.specs.declared.output.ScriptRun.{ScriptRun}
use Rattle.nc_script_text.specs.declared.step.ScriptStep.{ScriptStep}
use Rattle.nc_words.specs.Notes.{Told}
use Rattle.nc_reports.specs.Scripts.{Comes, HadNoMemory, HasBadLine, HasSteps, IsAbsent, RunsAt, Scripts, all_outputs, made_by, unsaid}
use Rattle.nc_reports.specs.Scripting.{Reads, RunsTo, Tells}
use Rattle.nc_words.specs.declared.end.ScriptEnd.{ScriptEnd}
use Rattle.nc_words.specs.declared.end.ScriptEnd.TheVariants.{Absent, BadLine, BadStep, Spent, Memory, Done}

-- a machine but for its keeper
abbrev forgotten : {K : Type 0} → Serving K → Serving (Unit {0})
forgotten machine = record { state = machine.state; count = machine.count; keeper = tt }

-- where nothing is said of crashes every history survives them
survives_unsaid : (now : ℕ) (s : State) (doubts : List (List Row)) (t : ℕ) (history : List Entry) → t ≤ now
    → Survives (λ at among. Unit {0}) now s doubts t history
survives_unsaid now s doubts t [] le = (le, tt)
survives_unsaid now s doubts t (e ∷ rest) le =
    (tt, (t, omega arith, survives_unsaid now (next s e) (doubts_after s doubts e) t rest le))

goes_still : {K : Type 0} (words : Lasting K) (old new : Serving K) (entries : List Entry) → GoesOn words old new entries
    → GoesOn unsaid (forgotten old) (forgotten new) entries
goes_still words old new entries goes = record {
  legal = goes.legal;
  state_is = goes.state_is;
  count_is = goes.count_is;
  continues = λ first was. tt;
  stands = λ home history stood. record {
    legal =
        let there : old.count ≡ 0 + length history = omega (arith, stood.count_is) in
        (legal_histories_join 0 home.opening history entries).1 (
          stood.legal,
          subst (λ (s : State). IsLegal (0 + length history) s entries) stood.state_is
              (subst (λ (n : ℕ). IsLegal n old.state entries) there goes.legal),
        );
    state_is = goes.state_is ∙ (ap (λ (s : State). after s entries) stood.state_is ∙ sym (histories_join home.opening history entries));
    count_is = omega (arith, goes.count_is, stood.count_is, length-append history entries);
    doubt_is = tt;
    survives = record {
      began = stood.survives.began;
      before = tt;
      since = survives_unsaid 0 home.opening [] home.begun (history ++ entries)
          (survives_by (λ at among. Unit {0}) 0 home.opening [] home.begun history stood.survives.since);
    };
  };
}

-- what a run of steps says of a machine, it says of one but for its keeper
runs_still : {K : Type 0} (words : Lasting K) (steps : List ScriptStep) (old new : Serving K)
    (result : Result ScriptRun ScriptFault) → scripts.Runs words steps old new result
    → scripts.Runs unsaid steps (forgotten old) (forgotten new) result
runs_still words steps old new result (AllDone entries board run does goes gives) =
    AllDone entries board run does (goes_still words old new entries goes)
    (record { outputs = gives.outputs; entries_are = gives.entries_are; ok = gives.ok; errors = gives.errors; rows = gives.rows })
runs_still words steps old new result (WasBad entries step board n reaches bad goes) =
    WasBad entries step board n reaches bad (goes_still words old new entries goes)
runs_still words steps old new result (WasSpent entries part step board n reaches due goes full) =
    WasSpent entries part step board n reaches due (goes_still words old new (entries ++ part) goes) full
runs_still words steps old new result (RanOut entries part last step board n reaches begun read goes) =
    RanOut entries part last step board n reaches begun read (goes_still words old new (entries ++ (part ++ last)) goes)
runs_still words steps old new result (HadNoRoom entries board does goes) =
    HadNoRoom entries board does (goes_still words old new entries goes)

-- and the machine went on by the entries that they made
goes_by : {K : Type 0} (words : Lasting K) (steps : List ScriptStep) (old new : Serving K)
    (result : Result ScriptRun ScriptFault) → (runs : scripts.Runs words steps old new result)
    → GoesOn words old new
    (made_by unsaid steps (forgotten old) (forgotten new) result (runs_still words steps old new result runs))
unfolding runs_still
goes_by words steps old new result (AllDone entries board run does goes gives) = goes
goes_by words steps old new result (WasBad entries step board n reaches bad goes) = goes
goes_by words steps old new result (WasSpent entries part step board n reaches due goes full) = goes
goes_by words steps old new result (RanOut entries part last step board n reaches begun read goes) = goes
goes_by words steps old new result (HadNoRoom entries board does goes) = goes

pub ran : {K : Type 0} (words : Lasting K) (steps : List ScriptStep) (old new : Serving K)
    (result : Result ScriptRun ScriptFault) → old.count ≡ 0 → scripts.Runs words steps old new result
    → RunsAt old.state new.state.faults (GoesOn words old new) steps result
ran words steps old new result count runs = record {
  old = forgotten old;
  new = forgotten new;
  state_is = refl;
  count_is = count;
  runs = runs_still words steps old new result runs;
  faults = refl;
  lasts = goes_by words steps old new result runs;
}

pub ran_to : (first : State) (failed : ℕ) (S : List Entry → Type 0) (steps : List ScriptStep) (fault : ScriptFault)
    (end : ScriptEnd) → RunsAt first failed S steps (Err fault) → Tells fault end → RunsTo first failed S steps (Err end)
ran_to first failed S steps (StepIsBad n) end at is = subst (λ e. RunsTo first failed S steps (Err e)) (sym is) at
ran_to first failed S steps (IsSpent n) end at is = subst (λ e. RunsTo first failed S steps (Err e)) (sym is) at
ran_to first failed S steps NoMemory end at is = subst (λ e. RunsTo first failed S steps (Err e)) (sym is) at

-- steps that were not done
pub not_done : (text_of : ScriptRun → List ℕ) (first : State) (failed : ℕ) (S : List Entry → Type 0)
    (steps : List ScriptStep) (now : Told) (end : ScriptEnd) → RunsTo first failed S steps (Err end)
    → Comes text_of first failed S steps now now end
not_done text_of first failed S steps now (BadStep n) runs = (runs, refl)
not_done text_of first failed S steps now (Spent n) runs = (runs, refl)
not_done text_of first failed S steps now Memory runs = (runs, refl)
not_done text_of first failed S steps now Absent none = none
not_done text_of first failed S steps now (BadLine line) none = none
not_done text_of first failed S steps now (Done printed) none = absurd none

-- steps of which there are none
pub not_read : {K : Type 0} (words : Lasting K) (machine : Serving K) (found : Option (List ℕ)) (now : Told)
    (end : ScriptEnd) → Reads found (Err end)
    → Scripts machine.state machine.state.faults (GoesOn words machine machine) found now now end
not_read words machine found now Absent none = IsAbsent none refl (goes_nowhere words machine) refl
not_read words machine found now (BadLine line) (text, is, bad) =
    HasBadLine text line is bad refl (goes_nowhere words machine) refl
not_read words machine found now Memory u = HadNoMemory refl (goes_nowhere words machine) refl
not_read words machine found now (BadStep n) none = absurd none
not_read words machine found now (Spent n) none = absurd none
not_read words machine found now (Done printed) none = absurd none

pub was_read : (first : State) (failed : ℕ) (S : List Entry → Type 0) (found : Option (List ℕ)) (steps : List ScriptStep)
    (before now : Told) (end : ScriptEnd) → Reads found (Ok steps)
    → Comes all_outputs first failed S steps before now end → Scripts first failed S found before now end
was_read first failed S found steps before now end (text, is, script) comes = HasSteps text steps end is script comes

-- ---- what lasts of what steps made may be said by a wider word
pub runs_so : (first : State) (failed : ℕ) (S T : List Entry → Type 0) (steps : List ScriptStep)
    (result : Result ScriptRun ScriptFault) → ((history : List Entry) → S history → T history)
    → RunsAt first failed S steps result → RunsAt first failed T steps result
runs_so first failed S T steps result less at = record {
  old = at.old;
  new = at.new;
  state_is = at.state_is;
  count_is = at.count_is;
  runs = at.runs;
  faults = at.faults;
  lasts = less (made_by unsaid steps at.old at.new result at.runs) at.lasts;
}

pub comes_so : (text_of : ScriptRun → List ℕ) (first : State) (failed : ℕ) (S T : List Entry → Type 0)
    (steps : List ScriptStep) (before now : Told) (end : ScriptEnd) → ((history : List Entry) → S history → T history)
    → Comes text_of first failed S steps before now end → Comes text_of first failed T steps before now end
comes_so text_of first failed S T steps before now (BadStep n) less (runs, same) =
    (runs_so first failed S T steps (Err (StepIsBad n)) less runs, same)
comes_so text_of first failed S T steps before now (Spent n) less (runs, same) =
    (runs_so first failed S T steps (Err (IsSpent n)) less runs, same)
comes_so text_of first failed S T steps before now (Done printed) less (run, runs, wrote) =
    (run, runs_so first failed S T steps (Ok run) less runs, wrote)
comes_so text_of first failed S T steps before now Memory less (runs, same) =
    (runs_so first failed S T steps (Err NoMemory) less runs, same)
comes_so text_of first failed S T steps before now Absent less none = none
comes_so text_of first failed S T steps before now (BadLine line) less none = none

pub scripts_so : (first : State) (failed : ℕ) (S T : List Entry → Type 0) (found : Option (List ℕ)) (before now : Told)
    (end : ScriptEnd) → ((history : List Entry) → S history → T history)
    → Scripts first failed S found before now end → Scripts first failed T found before now end
scripts_so first failed S T found before now end less (IsAbsent none same made unfailed) =
    IsAbsent none same (less [] made) unfailed
scripts_so first failed S T found before now end less (HasBadLine text line is bad same made unfailed) =
    HasBadLine text line is bad same (less [] made) unfailed
scripts_so first failed S T found before now end less (HadNoMemory same made unfailed) =
    HadNoMemory same (less [] made) unfailed
scripts_so first failed S T found before now end less (HasSteps text steps met is script comes) =
    HasSteps text steps met is script (comes_so all_outputs first failed S T steps before now met less comes)
