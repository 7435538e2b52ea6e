-- What follows of scripts.
use Rattle.std.specs.Prelude.{◌≡◌, ◌≢◌, ℕ, List, Some, Ok}
use Rattle.std.specs.List.{All, Contains}
use Rattle.nc_protocol.specs.declared.asked.Asked.TheVariants.{KillSession}
use Rattle.nc_protocol.specs.declared.request.Request.{Request}
use Rattle.nc_model.specs.History.{IsLegal}
use Rattle.nc_model.specs.Laws.{EndsSession}
use Rattle.nc_model.specs.State.{State}
use Rattle.nc_model.specs.declared.entry.Entry.{Entry}
use Rattle.nc_model.specs.declared.event.Event.TheVariants.{Request as Requested}
use Rattle.nc_session.specs.declared.end.SessionEnd.TheVariants.{Killed}
use Rattle.nc_script.specs.Connections.{Board, Connection, no_connections}
use Rattle.nc_script.specs.Runs.{DoesAll}
use Rattle.nc_script_text.specs.declared.step.ScriptStep.{ScriptStep}

-- an entry in which a kill-session of another session, which names this one, is done (RFC 6241 7.9)
pub record KillsSession (session : ℕ) (e : Entry) : Type 0 where
  pub killer : ℕ
  pub request : Request
  pub event_is : e.event ≡ Requested killer request
  pub names : request.asked ≡ Ok (KillSession session)
  pub other : killer ≢ session
  pub done : EndsSession session e.event e.outcome

-- such an entry ended its session
pub record WasKilledBy (entries : List Entry) (c : Connection) : Type 0 where
  pub ender : Entry
  pub there : Contains entries ender
  pub kills : KillsSession c.session ender

-- a connection whose session is found killed was ended by a kill-session of another session that names it, in a script
-- that begins in any state
abbrev pub KilledByAnother : Type 0
KilledByAnother =
    (first : ℕ) (opening : State) (script : List ScriptStep) (entries : List Entry) (board : Board) →
    IsLegal first opening entries → DoesAll script no_connections entries board →
    All (λ c. c.end ≡ Some Killed → WasKilledBy entries c) board.connections
