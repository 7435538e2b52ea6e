-- How an entry of a request leaves its session.
use Rattle.std.specs.Prelude.{◌≡◌, ◌&&◌, Bool, true, false}
use Rattle.nc_model.specs.declared.entry.Entry.{Entry}
use Rattle.nc_model.specs.declared.event.Outcome.{Outcome}
use Rattle.nc_model.specs.declared.event.Outcome.TheVariants.{Answered, NotLive}
use Rattle.nc_model.specs.Step.{is_done}
use Rattle.nc_session.specs.Sessions.{is_close}

-- it is answered, and its session is closed by it or not
abbrev pub IsAnsweredSo : Bool → Bool → Outcome → Type 0
IsAnsweredSo closed closes (Answered verdict reply) = (closes && is_done verdict) ≡ closed
IsAnsweredSo closed closes outcome = ⊥

-- an answer leaves it live, unless it is that to a close-session that is done (RFC 6241 7.8)
abbrev pub StaysLive : Entry → Type 0
StaysLive e = IsAnsweredSo false (is_close e.event) e.outcome

-- an answer closes it: that to a close-session that is done
abbrev pub Closes : Entry → Type 0
Closes e = IsAnsweredSo true (is_close e.event) e.outcome

-- it was not live, and gets no reply
abbrev pub IsDead : Entry → Type 0
IsDead e = e.outcome ≡ NotLive
