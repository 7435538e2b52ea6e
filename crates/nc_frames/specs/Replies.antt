-- What Frames answers, over the bytes of the stream that are not given yet.
use Rattle.std.specs.Prelude.{◌≡◌, ◌≢◌, ℕ, ◌+◌, List, ◌++◌, length, Option, Some, None, Result, Ok, Err, IsOk, IfErr}
use Rattle.nc_names.specs.declared.memory.Memory.{Memory as NoMemory}
use Rattle.nc_frames.specs.Framing.{Mode, Marks, Chunks, IsTooBig, IsBad, IsMessage, IsUnfinished, capped}
use Rattle.nc_frames.specs.declared.fault.FrameFault.{FrameFault}
use Rattle.nc_frames.specs.declared.fault.FrameFault.TheVariants.{BadFrame, TooBig, Memory}
use Rattle.nc_frames.specs.inner.Kept.{Kept, Failed, IsUnread}

-- No fault was answered. Of the stream, the bytes from this place on are not given as messages; they are
-- framed in this mode. How Frames keeps them nobody has to know: what is new has it of a stream without
-- bytes, and each call says what has it then.
unfoldable pub Unread : Kept → Mode → ℕ → List ℕ → Type 0
Unread kept mode first bytes = IsUnread kept mode first bytes

-- this fault was answered
unfoldable pub HasFailed : Kept → FrameFault → Type 0
HasFailed kept fault = kept ≡ Failed fault

-- the fault of the message that begins with these bytes, the first of which has this place
abbrev pub IsFaultOf : Mode → ℕ → List ℕ → FrameFault → Type 0
IsFaultOf mode first bytes (TooBig at) = (place : ℕ) × IsTooBig mode bytes place × (at ≡ capped (first + place))
IsFaultOf Chunks first bytes (BadFrame at) = (place : ℕ) × IsBad bytes place × (at ≡ capped (first + place))
IsFaultOf Marks first bytes (BadFrame at) = ⊥
IsFaultOf mode first bytes Memory = ⊥

-- the bytes with one piece more, where it was taken
abbrev pub with_piece : Result (Unit {0}) NoMemory → List ℕ → List ℕ → List ℕ
with_piece (Ok done) bytes piece = bytes ++ piece
with_piece (Err memory) bytes piece = bytes

-- what `feed` promises
pub record Feeds (old : Kept) (piece : List ℕ) (result : Result (Unit {0}) NoMemory) (new : Kept) : Type 0 where
  pub unread : (mode : Mode) (first : ℕ) (bytes : List ℕ)
      → Unread old mode first bytes → Unread new mode first (with_piece result bytes piece)
  pub standing : (fault : FrameFault) → HasFailed old fault → IsOk result × HasFailed new fault

-- the next message stands at the front, and is given
pub record Gives (new : Kept) (mode : Mode) (first : ℕ) (bytes message : List ℕ) : Type 0 where
  pub framed : List ℕ
  pub rest : List ℕ
  pub bytes_are : bytes ≡ framed ++ rest
  pub is_message : IsMessage mode framed message
  pub unread : Unread new mode (first + length framed) rest

-- What is answered where these bytes, the first of which has this place, are not given: nothing, where
-- they are no whole message and show no fault; else their first message, or its fault.
abbrev pub Replies : Result (Option (List ℕ)) FrameFault → Kept → Mode → ℕ → List ℕ → Type 0
Replies (Ok None) new mode first bytes = Unread new mode first bytes × IsUnfinished mode bytes
Replies (Ok (Some message)) new mode first bytes = Gives new mode first bytes message
Replies (Err Memory) new mode first bytes = Unread new mode first bytes
Replies (Err (BadFrame at)) new mode first bytes = IsFaultOf mode first bytes (BadFrame at)
Replies (Err (TooBig at)) new mode first bytes = IsFaultOf mode first bytes (TooBig at)

-- what `next` promises
pub record Answers (old : Kept) (reply : Result (Option (List ℕ)) FrameFault) (new : Kept) : Type 0 where
  pub replies : (mode : Mode) (first : ℕ) (bytes : List ℕ)
      → Unread old mode first bytes → Replies reply new mode first bytes
  pub fault : IfErr reply (λ fault. fault ≢ Memory → HasFailed new fault)
  pub standing : (fault : FrameFault) → HasFailed old fault → (reply ≡ Err fault) × HasFailed new fault

-- what `switch` promises
pub record Switches (old new : Kept) : Type 0 where
  pub unread : (mode : Mode) (first : ℕ) (bytes : List ℕ) → Unread old mode first bytes → Unread new Chunks first bytes
  pub standing : (fault : FrameFault) → HasFailed old fault → HasFailed new fault
