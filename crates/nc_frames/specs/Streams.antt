-- Whole streams, and the calls of Frames over one.
use Rattle.std.specs.Prelude.{◌≡◌, ◌≢◌, ℕ, ◌+◌, List, [], ◌∷◌, ◌++◌, length, Option, Some, None, Result, Ok, Err}
use Rattle.nc_names.specs.declared.memory.Memory.{Memory as NoMemory}
use Rattle.nc_frames.specs.declared.fault.FrameFault.{FrameFault}
use Rattle.nc_frames.specs.declared.fault.FrameFault.TheVariants.{Memory}
use Rattle.nc_frames.specs.Framing.{Mode, Marks, Chunks, EndOfMessage, Chunked, IsMessage, IsUnfinished}
use Rattle.nc_frames.specs.Replies.{IsFaultOf, Feeds, Answers}
use Rattle.nc_frames.specs.inner.Kept.{Kept}

-- the bytes are these messages, each framed
abbrev pub AreMessages : Mode → List ℕ → List (List ℕ) → Type 0
AreMessages mode bytes [] = bytes ≡ []
AreMessages mode bytes (message ∷ messages) =
    (framed : List ℕ) × (more : List ℕ)
    × (bytes ≡ framed ++ more) × IsMessage mode framed message × AreMessages mode more messages

-- what stands after the last whole message is unfinished, or has this fault
abbrev pub EndsSo : Mode → ℕ → List ℕ → Option FrameFault → Type 0
EndsSo mode first bytes None = IsUnfinished mode bytes
EndsSo mode first bytes (Some fault) = IsFaultOf mode first bytes fault

-- a stream, the first byte of which has this place: its messages, and how it ends
pub record IsStream (mode : Mode) (first : ℕ) (bytes : List ℕ) (messages : List (List ℕ)) (end : Option FrameFault)
    : Type 0 where
  pub framed : List ℕ
  pub rest : List ℕ
  pub whole : bytes ≡ framed ++ rest
  pub messages_are : AreMessages mode framed messages
  pub ends : EndsSo mode (first + length framed) rest end

-- The stream of a session from its first byte: the hello with its mark, and then messages in this mode (RFC
-- 6242 4.1). Before the hello is whole it is a stream with the mark.
abbrev pub IsSession : Mode → List ℕ → List (List ℕ) → Option FrameFault → Type 0
IsSession mode bytes [] end = IsStream Marks 0 bytes [] end
IsSession mode bytes (hello ∷ messages) end =
    (framed : List ℕ) × (more : List ℕ)
    × (bytes ≡ framed ++ more) × IsMessage Marks framed hello × IsStream mode (length framed) more messages end

-- the messages of a stream as its framing is defined, and what is left after them
abbrev pub AreWhole : Mode → List ℕ → List (List ℕ) → List ℕ → Type 0
AreWhole Marks bytes messages rest = EndOfMessage bytes messages rest
AreWhole Chunks bytes messages rest = Chunked bytes messages rest

-- a call of Frames and its answer
pub data Event : Type 0 where
  Fed : (piece : List ℕ) (result : Result (Unit {0}) NoMemory) → Event
  Asked : (reply : Result (Option (List ℕ)) FrameFault) → Event

-- calls in order
abbrev pub Runs : Kept → List Event → Kept → Type 0
Runs old [] new = old ≡ new
Runs old (Fed piece result ∷ events) new = (between : Kept) × Feeds old piece result between × Runs between events new
Runs old (Asked reply ∷ events) new = (between : Kept) × Answers old reply between × Runs between events new

-- the bytes that were fed
abbrev pub fed_by : List Event → List ℕ
fed_by [] = []
fed_by (Fed piece (Ok done) ∷ events) = piece ++ fed_by events
fed_by (Fed piece (Err memory) ∷ events) = fed_by events
fed_by (Asked reply ∷ events) = fed_by events

-- the messages that were given
abbrev pub given_by : List Event → List (List ℕ)
given_by [] = []
given_by (Fed piece result ∷ events) = given_by events
given_by (Asked (Ok None) ∷ events) = given_by events
given_by (Asked (Ok (Some message)) ∷ events) = message ∷ given_by events
given_by (Asked (Err fault) ∷ events) = given_by events

-- a reply after which nothing more is to be given: nothing, or this fault
abbrev pub Tells : Result (Option (List ℕ)) FrameFault → Option FrameFault → Type 0
Tells reply None = reply ≡ Ok None
Tells reply (Some fault) = (reply ≡ Err fault) × (fault ≢ Memory)
