-- What the bytes of a session ask for (RFC 6241 4.1 and 8.1; RFC 6242 4).
use Rattle.std.specs.Prelude.{◌≡◌, ℕ, List, [], ◌++◌, length, map, Option, Some, None, Ok, Err}
use Rattle.std.specs.List.{AllByRecursion, flat_map}
use Rattle.nc_frames.specs.Framing.{Mode, Marks, Chunks, IsMessage, IsUnfinished}
use Rattle.nc_frames.specs.Replies.{IsFaultOf}
use Rattle.nc_frames.specs.declared.fault.FrameFault.TheVariants.{BadFrame as FrameBad, TooBig as FrameTooBig}
use Rattle.nc_protocol.specs.declared.request.Request.{Request}
use Rattle.nc_session.specs.declared.base.Base.{Base}
use Rattle.nc_session.specs.declared.base.Base.TheVariants.{Base10, Base11}
use Rattle.nc_session.specs.declared.end.SessionEnd.{SessionEnd}
use Rattle.nc_session.specs.declared.end.SessionEnd.TheVariants.{BadHello, BadFrame, TooBig, Malformed}
use Rattle.nc_session.specs.Requests.{AsksFor, Greets}

-- how the messages after the hellos are framed (RFC 6242 4.1)
abbrev pub mode_of : Base → Mode
mode_of Base10 = Marks
mode_of Base11 = Chunks

-- a message as it stands in the stream, its bytes, and the request that they give
pub record Message : Type 0 where
  pub framed : List ℕ
  pub body : List ℕ
  pub request : Request

-- a message of the stream asks for this request
pub record IsAsked (base : Base) (message : Message) : Type 0 where
  pub is_message : IsMessage (mode_of base) message.framed message.body
  pub asks : AsksFor base message.body (Ok message.request)

-- the bytes of messages, with their framing
abbrev pub stream_of : List Message → List ℕ
stream_of messages = flat_map (λ message. message.framed) messages

-- the requests that they ask for
abbrev pub requests_of : List Message → List Request
requests_of messages = map (λ message. message.request) messages

-- The bytes are the client's hello, with its mark, which chooses this version of the protocol, and then messages
-- that give these requests, one each.
pub record Asks (base : Base) (bytes : List ℕ) (requests : List Request) : Type 0 where
  pub hello : List ℕ
  pub hello_body : List ℕ
  pub is_hello : IsMessage Marks hello hello_body
  pub chooses : Greets hello_body (Ok base)
  pub messages : List Message
  pub each : AllByRecursion (IsAsked base) messages
  pub requests_are : requests ≡ requests_of messages
  pub bytes_are : bytes ≡ hello ++ stream_of messages

-- the bytes begin so
pub record AsksFirst (base : Base) (bytes : List ℕ) (requests : List Request) : Type 0 where
  pub front : List ℕ
  pub rest : List ℕ
  pub bytes_are : bytes ≡ front ++ rest
  pub asks : Asks base front requests

-- these bytes begin with a message with this body
pub record BeginsWith (mode : Mode) (bytes body : List ℕ) : Type 0 where
  pub framed : List ℕ
  pub rest : List ℕ
  pub bytes_are : bytes ≡ framed ++ rest
  pub is_message : IsMessage mode framed body

-- why the first message of a session is no hello that is taken
abbrev pub StopsAtHello : List ℕ → SessionEnd → Type 0
StopsAtHello bytes (BadHello why) = (body : List ℕ) × BeginsWith Marks bytes body × Greets body (Err why)
StopsAtHello bytes (BadFrame at) = IsFaultOf Marks 0 bytes (FrameBad at)
StopsAtHello bytes (TooBig at) = IsFaultOf Marks 0 bytes (FrameTooBig at)
StopsAtHello bytes end = ⊥

-- why the message that begins here, at this place of the session, gives no request
abbrev pub StopsAtMessage : Base → ℕ → List ℕ → SessionEnd → Type 0
StopsAtMessage base first bytes (Malformed at why) =
    (body : List ℕ) × BeginsWith (mode_of base) bytes body × AsksFor base body (Err (record { at = at; why = why }))
StopsAtMessage base first bytes (BadFrame at) = IsFaultOf (mode_of base) first bytes (FrameBad at)
StopsAtMessage base first bytes (TooBig at) = IsFaultOf (mode_of base) first bytes (FrameTooBig at)
StopsAtMessage base first bytes end = ⊥

-- The bytes ask for these requests and no others, and stop there or not.
pub data AsksAll (base : Base) (bytes : List ℕ) (requests : List Request) : Option SessionEnd → Type 0 where
  -- the hello is not whole yet
  Unmet : requests ≡ [] → IsUnfinished Marks bytes → AsksAll base bytes requests None
  -- the hello is not taken
  Spurned : (end : SessionEnd) → requests ≡ [] → StopsAtHello bytes end → AsksAll base bytes requests (Some end)
  -- what stands after the last request is no whole message yet
  Waiting : (first : AsksFirst base bytes requests) → IsUnfinished (mode_of base) first.rest
      → AsksAll base bytes requests None
  -- what stands after the last request is no request
  Stopped : (first : AsksFirst base bytes requests) (end : SessionEnd)
      → StopsAtMessage base (length first.front) first.rest end → AsksAll base bytes requests (Some end)
