-- How an entry leaves its session, as it is told.
use Rattle.std.specs.Prelude.{◌≡◌, Bool, true, false}
use Rattle.nc_model.specs.declared.entry.Entry.{Entry}
use Rattle.nc_model.specs.declared.event.Outcome.{Outcome}
use Rattle.nc_model.specs.declared.event.Outcome.TheVariants.{NotLive}
use Rattle.nc_model.specs.Step.{is_done}
use Rattle.nc_protocol.specs.declared.verdict.Verdict.{Verdict}
use Rattle.nc_session.specs.Sessions.{IsAnswered}
use Rattle.nc_session.specs.declared.end.SessionEnd.{SessionEnd}
use Rattle.nc_session.specs.declared.end.SessionEnd.TheVariants.{Killed}
use Rattle.nc_script.specs.Leaving.{Closes, StaysLive}
use Rattle.nc_script.specs.declared.leaving.Left.{Left}
use Rattle.nc_script.specs.declared.leaving.Left.TheVariants.{Live, Closed, Dead}

-- live, closed, or found dead
abbrev pub IsLeft : Entry → Left → Type 0
IsLeft e Live = StaysLive e × IsAnswered e.outcome
IsLeft e Closed = Closes e × IsAnswered e.outcome
IsLeft e Dead = ¬ IsAnswered e.outcome

-- by an answer
abbrev pub IsLeftBy : Bool → Verdict → Left → Type 0
IsLeftBy false verdict left = left ≡ Live
IsLeftBy true verdict Live = is_done verdict ≡ false
IsLeftBy true verdict Closed = is_done verdict ≡ true
IsLeftBy true verdict Dead = ⊥

-- how a session ended of which an End came to that
abbrev pub EndsAs : SessionEnd → Outcome → SessionEnd → Type 0
EndsAs end NotLive result = result ≡ Killed
EndsAs end outcome result = result ≡ end
