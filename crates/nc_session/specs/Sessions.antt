-- The entries of a session, and the text that answers them.
use Rattle.std.specs.Prelude.{◌≡◌, ◌&&◌, ℕ, Bool, false, if◌then◌else◌, List, [], ◌∷◌, ◌++◌, map}
use Rattle.std.specs.List.{All, flat_map}
use Rattle.nc_schema.specs.Tables.{Tables}
use Rattle.nc_model.specs.declared.entry.Entry.{Entry}
use Rattle.nc_model.specs.declared.event.Event.{Event}
use Rattle.nc_model.specs.declared.event.Event.TheVariants.{Start, Request as Requested}
use Rattle.nc_model.specs.declared.event.Outcome.{Outcome}
use Rattle.nc_model.specs.declared.event.Outcome.TheVariants.{Started, Answered, NotLive}
use Rattle.nc_protocol.specs.declared.peer.Peer.{Peer}
use Rattle.nc_protocol.specs.declared.request.Request.{Request}
use Rattle.nc_model.specs.Laws.{asks_close}
use Rattle.nc_model.specs.Step.{is_done}
use Rattle.nc_session.specs.declared.base.Base.{Base}
use Rattle.nc_session.specs.declared.standing.Standing.{Standing}
use Rattle.nc_session.specs.declared.standing.Standing.TheVariants.{Live, Closed, Dead}
use Rattle.nc_session.specs.Replies.{reply_text}
use Rattle.nc_session.specs.ServerHello.{hello_text}

-- a session that is started is greeted, and an answer is its reply; nothing else is written
abbrev pub entry_text : Tables → Base → Outcome → List ℕ
entry_text schema base (Started session) = hello_text schema.modules session
entry_text schema base (Answered verdict reply) = reply_text base reply
entry_text schema base outcome = []

-- all that is written to a session
abbrev pub session_text : Tables → Base → List Entry → List ℕ
session_text schema base entries = flat_map (λ e. entry_text schema base e.outcome) entries

-- there is a reply
abbrev pub IsAnswered : Outcome → Type 0
IsAnswered (Answered verdict reply) = Unit {0}
IsAnswered outcome = ⊥

-- a request that asks for close-session (RFC 6241 7.8)
abbrev pub is_close : Event → Bool
is_close (Requested session request) = asks_close request.asked
is_close event = false

-- how a session stands after an entry: closed by it, live, or found dead
abbrev pub standing_by : Bool → Outcome → Standing
standing_by closes (Answered verdict reply) = if closes && is_done verdict then Closed else Live
standing_by closes outcome = Dead

-- how a request's entry leaves its session: an answer leaves it live, unless it is that to a close-session
-- that is done (RFC 6241 7.8)
abbrev pub standing_after : Entry → Standing
standing_after e = standing_by (is_close e.event) e.outcome

-- each of the entries leaves the session live
abbrev pub StayLive : List Entry → Type 0
StayLive entries = All (λ e. standing_after e ≡ Live) entries

-- the last of the entries is so, and those before it leave the session live
pub record LastIs (P : Entry → Type 0) (entries : List Entry) : Type 0 where
  pub before : List Entry
  pub last : Entry
  pub entries_are : entries ≡ before ++ last ∷ []
  pub live : StayLive before
  pub is : P last

-- how the entries of a session's requests leave it. No request is entered for a session that is not live.
abbrev pub Leave : List Entry → Standing → Type 0
Leave entries Live = StayLive entries
Leave entries Closed = LastIs (λ e. standing_after e ≡ Closed) entries
Leave entries Dead = LastIs (λ e. e.outcome ≡ NotLive) entries

-- a session's Start, and entries of these requests
pub record HasEntered (peer : Peer) (session : ℕ) (requests : List Request) (entries : List Entry) : Type 0 where
  pub start : Entry
  pub answers : List Entry
  pub entries_are : entries ≡ start ∷ answers
  pub event : start.event ≡ Start peer
  pub started : start.outcome ≡ Started session
  pub events : map (λ e. e.event) answers ≡ map (λ request. Requested session request) requests
