-- A script as a whole: one history, and the output of each connection.
use Rattle.std.specs.Prelude.{◌≡◌, ◌+◌, ℕ, Bool, true, false, not, List, [], ◌∷◌, ◌++◌, length, map, Result, Ok, Err}
use Rattle.std.specs.List.{filter}
use Rattle.nc_names.specs.Limits.{most_requests}
use Rattle.nc_machine.specs.Lasting.{Lasting}
use Rattle.nc_schema.specs.Tables.{Tables}
use Rattle.nc_protocol.specs.declared.verdict.Verdict.{Verdict}
use Rattle.nc_protocol.specs.declared.verdict.Verdict.TheVariants.{Refused}
use Rattle.nc_model.specs.declared.entry.Entry.{Entry}
use Rattle.nc_model.specs.declared.event.Event.TheVariants.{Reading}
use Rattle.nc_model.specs.declared.event.Outcome.{Outcome}
use Rattle.nc_model.specs.declared.event.Outcome.TheVariants.{Answered}
use Rattle.nc_machine.specs.Serving.{GoesOn, Serving}
use Rattle.nc_session.specs.Sessions.{session_text}
use Rattle.nc_script.specs.Connections.{Board, Connection, no_connections}
use Rattle.nc_script.specs.Steps.{Begun, Does, IsBad, IsDue, clock_at}
use Rattle.nc_script.specs.declared.output.Output.{Output}
use Rattle.nc_script.specs.declared.output.ScriptRun.{ScriptRun}
use Rattle.nc_script.specs.declared.fault.ScriptFault.{ScriptFault}
use Rattle.nc_script.specs.declared.fault.ScriptFault.TheVariants.{BadStep, Spent, Memory}
use Rattle.nc_script_text.specs.declared.step.ScriptStep.{ScriptStep}

-- the steps are done one after another, and each enters its group of the entries
abbrev pub DoesAll : List ScriptStep → Board → List Entry → Board → Type 0
DoesAll [] board entries last = (entries ≡ []) × (last ≡ board)
DoesAll (step ∷ steps) board entries last =
    (next : Board) × (group : List Entry) × (more : List Entry) × (entries ≡ group ++ more)
    × Does step board group next × DoesAll steps next more last

-- a reply without an `rpc-error`, or one with an `rpc-error` for each cause (RFC 6241 4.3)
abbrev pub is_refusal : Verdict → Bool
is_refusal (Refused causes) = true
is_refusal verdict = false

-- an answer without an error
abbrev pub is_reply : Outcome → Bool
is_reply (Answered verdict reply) = not (is_refusal verdict)
is_reply outcome = false

-- an answer with errors
abbrev pub is_error : Outcome → Bool
is_error (Answered verdict reply) = is_refusal verdict
is_error outcome = false

-- how many of the entries are so
abbrev pub count_so : (Outcome → Bool) → List Entry → ℕ
count_so test entries = length (filter (λ e. test e.outcome) entries)

-- what a connection was told: the text of its session
abbrev pub output_of : Tables → Connection → Output
output_of schema c = record {
  connection = c.number;
  bytes = session_text schema c.course.base c.course.entries;
  end = c.end;
}

-- what a script gives: the outputs in the order in which the connections began; how many entries were made, how many
-- replies have no error and how many have one; and how many rows running has
pub record Gives {K : Type 0} (machine : Serving K) (board : Board) (entries : List Entry) (run : ScriptRun) :
    Type 0 where
  pub outputs : run.outputs ≡ map (output_of machine.state.schema) board.connections
  pub entries_are : run.entries ≡ length entries
  pub ok : run.ok ≡ count_so is_reply entries
  pub errors : run.errors ≡ count_so is_error entries
  pub rows : run.rows ≡ length machine.state.running

-- the first `n - 1` steps are done, and step `n` is the next
pub record Reaches (script : List ScriptStep) (n : ℕ) (entries : List Entry) (step : ScriptStep) (board : Board) :
    Type 0 where
  pub front : List ScriptStep
  pub rest : List ScriptStep
  pub script_is : script ≡ front ++ step ∷ rest
  pub n_is : n ≡ length front + 1
  pub does : DoesAll front no_connections entries board

-- a reading of the clock stands in the place of an entry for which no memory was found, or none
pub data MayRead (at : ℕ) : List Entry → Type 0 where
  NotRead : MayRead at []
  HasRead : (e : Entry) → e.event ≡ Reading → e.at ≡ at → MayRead at (e ∷ [])

-- What a script comes to, and by which entries the machine went on: it stands for whatever history it stood for before,
-- with these, and so a crash at any moment leaves what may come back of them.
pub data Runs {K : Type 0} (words : Lasting K) (script : List ScriptStep) (old new : Serving K) :
    Result ScriptRun ScriptFault → Type 0 where
  -- each step is done
  AllDone : (entries : List Entry) (board : Board) (run : ScriptRun) → DoesAll script no_connections entries board
      → GoesOn words old new entries → Gives new board entries run → Runs words script old new (Ok run)
  -- a step cannot be done: those before it are
  WasBad : (entries : List Entry) (step : ScriptStep) (board : Board) (n : ℕ) → Reaches script n entries step board
      → IsBad step board → GoesOn words old new entries → Runs words script old new (Err (BadStep n))
  -- the machine has no number for an entry that is due in a step, after a beginning of its entries
  WasSpent : (entries part : List Entry) (step : ScriptStep) (board : Board) (n : ℕ)
      → Reaches script n entries step board → IsDue board step part → GoesOn words old new (entries ++ part)
      → new.count ≡ most_requests
      → Runs words script old new (Err (Spent n))
  -- no memory was found within a step
  HadNoMemory : (entries part last : List Entry) (step : ScriptStep) (board : Board) (n : ℕ)
      → Reaches script n entries step board → Begun board step part → MayRead (clock_at step board) last
      → GoesOn words old new (entries ++ (part ++ last)) → Runs words script old new (Err Memory)
  -- or for the outputs
  HadNoRoom : (entries : List Entry) (board : Board) → DoesAll script no_connections entries board
      → GoesOn words old new entries → Runs words script old new (Err Memory)
