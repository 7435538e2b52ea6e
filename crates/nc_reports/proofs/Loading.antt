-- A load test, from its steps.
use Rattle.std.proofs.Common.{◌≡◌, ◌≤◌, ◌+◌, ◌-◌, ◌^◌, ℕ, List, Ok, Err, subst, ◌∙◌}
use Rattle.nc_model.specs.State.{State, opening}
use Rattle.nc_model.specs.declared.entry.Entry.{Entry}
use Rattle.nc_script.specs.Load.{load_steps}
use Rattle.nc_script.specs.declared.output.ScriptRun.{ScriptRun}
use Rattle.nc_script_text.specs.declared.step.ScriptStep.{ScriptStep}
use Rattle.nc_setup.specs.Setup.{IsSetup}
use Rattle.nc_setup.specs.declared.setup.Setup.{Setup as Server}
use Rattle.nc_reports.proofs.Scripting.{comes_so, not_done, runs_so}
use Rattle.nc_reports.specs.Counts.{load_line}
use Rattle.nc_reports.specs.Loads.{Loads, load_contents, nothing_lasts}
use Rattle.nc_words.specs.Notes.{Told}
use Rattle.nc_device.specs.Outside.{Making}
use Rattle.nc_words.specs.Printing.{IsPrinted}
use Rattle.nc_reports.specs.Scripts.{RunsAt}
use Rattle.nc_reports.specs.Scripting.{RunsTo}
use Rattle.nc_words.specs.declared.end.Printed.{Printed}
use Rattle.nc_words.specs.declared.end.RunEnd.TheVariants.{Script}
use Rattle.nc_words.specs.declared.end.ScriptEnd.{ScriptEnd}
use Rattle.nc_words.specs.declared.end.ScriptEnd.TheVariants.{Done}

-- a load test whose steps were done
pub loaded : (edits : ℕ) (server : Server) (first : State) (failed : ℕ) (S : List Entry → Type 0) (steps : List ScriptStep)
    (run : ScriptRun) (m n : Making) (before now : Told) (printed : Printed) → IsSetup load_contents server
    → first ≡ opening server.schema server.running 0 → failed ≡ 0 → steps ≡ load_steps edits → RunsAt first failed S steps (Ok run)
    → IsPrinted (load_line edits run) before now printed → Loads edits m n before now (Script (Done printed))
loaded edits server first failed S steps run m n before now printed setup is unfailed steps_are runs wrote = record {
  server = server;
  setup = setup;
  comes = (
    run,
    subst (λ (z : State × ℕ × List ScriptStep). RunsAt z.0 z.1 nothing_lasts z.2 (Ok run)) (λ i. (is i, unfailed i, steps_are i))
        (runs_so first failed S nothing_lasts steps (Ok run) (λ history made. tt) runs),
    wrote,
  );
}

-- and one whose steps were not
pub not_loaded : (edits : ℕ) (server : Server) (first : State) (failed : ℕ) (S : List Entry → Type 0)
    (steps : List ScriptStep) (m n : Making) (now : Told) (end : ScriptEnd) → IsSetup load_contents server
    → first ≡ opening server.schema server.running 0 → failed ≡ 0 → steps ≡ load_steps edits → RunsTo first failed S steps (Err end)
    → Loads edits m n now now (Script end)
not_loaded edits server first failed S steps m n now end setup is unfailed steps_are runs = record {
  server = server;
  setup = setup;
  comes = comes_so (load_line edits) (opening server.schema server.running 0) 0 S nothing_lasts (load_steps edits)
      now now end (λ history made. tt)
      (not_done (load_line edits) (opening server.schema server.running 0) 0 S (load_steps edits) now end
      (subst (λ (z : State × ℕ × List ScriptStep). RunsTo z.0 z.1 S z.2 (Err end)) (λ i. (is i, unfailed i, steps_are i)) runs));
}
