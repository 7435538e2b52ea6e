-- What the framings promise of any stream, in whatever pieces it is fed and whenever messages are asked for.
use Rattle.std.specs.Prelude.{◌≡◌, ◌⊎◌, ℕ, ◌+◌, ◌*◌, ◌<◌, ◌≤◌, List, [], ◌∷◌, ◌++◌, length, Option, Some, None, Result, Ok}
use Rattle.std.specs.List.{concat}
use Rattle.nc_names.specs.Mark.{IsMarked, with_mark}
use Rattle.nc_names.specs.Limits.{message_limit}
use Rattle.nc_frames.specs.declared.fault.FrameFault.{FrameFault}
use Rattle.nc_frames.specs.Framing.{Mode, Marks, Chunks, EndOfMessage, Chunked, IsFramed, IsUnfinished, IsBad, in_chunks, marked_limit}
use Rattle.nc_frames.specs.Writing.{IsCut, written_chunk}
use Rattle.nc_frames.specs.Replies.{Unread, HasFailed, IsFaultOf, Answers, Switches}
use Rattle.nc_frames.specs.Streams.{Event, Runs, fed_by, given_by, AreMessages, AreWhole, IsStream, IsSession, Tells}
use Rattle.nc_frames.specs.inner.Kept.{Kept}

-- a part of the bytes is given as these messages, and the rest is not given
pub record IsGiven (kept : Kept) (mode : Mode) (first : ℕ) (bytes : List ℕ) (messages : List (List ℕ)) : Type 0 where
  pub framed : List ℕ
  pub rest : List ℕ
  pub whole : bytes ≡ framed ++ rest
  pub messages_are : AreMessages mode framed messages
  pub unread : Unread kept mode (first + length framed) rest

-- the stream has this fault after these messages, and it was answered
pub record IsFaulty (kept : Kept) (mode : Mode) (first : ℕ) (bytes : List ℕ) (messages : List (List ℕ)) : Type 0 where
  pub fault : FrameFault
  pub failed : HasFailed kept fault
  pub stream : IsStream mode first bytes messages (Some fault)

-- What is given and what is not are together what was fed, until the stream's fault is answered.
abbrev pub GivesAllThatIsFed : Type 0
GivesAllThatIsFed = (events : List Event) (old new : Kept) (mode : Mode) (first : ℕ) (bytes : List ℕ)
    → Unread old mode first bytes → Runs old events new
    → IsGiven new mode first (bytes ++ fed_by events) (given_by events)
    ⊎ IsFaulty new mode first (bytes ++ fed_by events) (given_by events)

-- Where nothing more is to be given, the messages that were given are the stream's, and it ends as was told.
abbrev pub GivesTheStream : Type 0
GivesTheStream = (events : List Event) (old between new : Kept) (mode : Mode) (first : ℕ) (bytes : List ℕ)
    → (reply : Result (Option (List ℕ)) FrameFault) (end : Option FrameFault)
    → Unread old mode first bytes → Runs old events between → Answers between reply new → Tells reply end
    → IsStream mode first (bytes ++ fed_by events) (given_by events) end

-- The same of a session from its first byte, without a switch and with one directly after the hello.
pub record GivesTheSession : Type 0 where
  pub marks : (events : List Event) (old between new : Kept)
      → (reply : Result (Option (List ℕ)) FrameFault) (end : Option FrameFault)
      → Unread old Marks 0 [] → Runs old events between → Answers between reply new → Tells reply end
      → IsSession Marks (fed_by events) (given_by events) end
  pub chunks : (events later : List Event) (old greeting greeted switched between new : Kept) (hello : List ℕ)
      → (reply : Result (Option (List ℕ)) FrameFault) (end : Option FrameFault)
      → Unread old Marks 0 [] → Runs old events greeting → given_by events ≡ []
      → Answers greeting (Ok (Some hello)) greeted → Switches greeted switched
      → Runs switched later between → Answers between reply new → Tells reply end
      → IsSession Chunks (fed_by events ++ fed_by later) (hello ∷ given_by later) end

-- What is left after the last message is no whole message and shows no fault; the messages are framed.
abbrev pub IsFramedAsDefined : Type 0
IsFramedAsDefined = (mode : Mode) (first : ℕ) (bytes : List ℕ) (messages : List (List ℕ))
    → IsStream mode first bytes messages None
    → (rest : List ℕ) × AreWhole mode bytes messages rest × IsUnfinished mode rest

-- A stream has one list of messages, and one fault or none; a session too. What is given determines what is
-- left.
pub record HasOneReading : Type 0 where
  pub stream : (mode : Mode) (first : ℕ) (bytes : List ℕ)
      → (messages others : List (List ℕ)) (end other : Option FrameFault)
      → IsStream mode first bytes messages end → IsStream mode first bytes others other
      → (messages ≡ others) × (end ≡ other)
  pub session : (mode : Mode) (bytes : List ℕ)
      → (messages others : List (List ℕ)) (end other : Option FrameFault)
      → IsSession mode bytes messages end → IsSession mode bytes others other
      → (messages ≡ others) × (end ≡ other)
  pub rest : (mode : Mode) (framed rest other more : List ℕ) (messages : List (List ℕ))
      → framed ++ rest ≡ other ++ more
      → AreMessages mode framed messages → AreMessages mode other messages → rest ≡ more

-- Of the answers to bytes that are not given one fits at most: that they are unfinished, this message, or
-- this fault.
pub record OneAnswer (mode : Mode) (bytes : List ℕ) : Type 0 where
  pub no_message : IsUnfinished mode bytes
      → (framed rest message : List ℕ) → bytes ≡ framed ++ rest → ¬ IsFramed mode framed message
  pub no_fault : IsUnfinished mode bytes → (first : ℕ) (fault : FrameFault) → ¬ IsFaultOf mode first bytes fault
  pub message_alone : (framed rest message : List ℕ)
      → bytes ≡ framed ++ rest → IsFramed mode framed message → length message ≤ message_limit
      → (first : ℕ) (fault : FrameFault) → ¬ IsFaultOf mode first bytes fault
  pub one_message : (framed rest message other more another : List ℕ)
      → bytes ≡ framed ++ rest → IsFramed mode framed message
      → bytes ≡ other ++ more → IsFramed mode other another → (message ≡ another) × (rest ≡ more)
  pub one_fault : (first : ℕ) (fault other : FrameFault)
      → IsFaultOf mode first bytes fault → IsFaultOf mode first bytes other → fault ≡ other

-- so it is for all bytes
abbrev pub HasOneAnswer : Type 0
HasOneAnswer = (mode : Mode) (bytes : List ℕ) → OneAnswer mode bytes

-- the most bytes of an unfinished message in chunks: LF # 1 LF and an octet for each octet, and LF # and ten
-- digits
abbrev pub unfinished_limit : ℕ
unfinished_limit = message_limit * 5 + 12

-- so many bytes have a hello and another message, or a fault
abbrev pub session_limit : ℕ
session_limit = marked_limit + unfinished_limit + 1

-- What is unfinished is not long.
pub record IsBounded : Type 0 where
  pub marks : (bytes : List ℕ) → IsUnfinished Marks bytes → length bytes < marked_limit
  pub chunks : (bytes : List ℕ) → IsUnfinished Chunks bytes → length bytes ≤ unfinished_limit
  pub session : (mode : Mode) (bytes : List ℕ) (messages : List (List ℕ))
      → IsSession mode bytes messages None → length messages ≤ 1 → length bytes < session_limit
  pub number : session_limit ≡ 25165843

-- What is written is framed as that one message: with the mark where the mark stands only at the end.
pub record WritesOneMessage : Type 0 where
  pub marks : (body : List ℕ) → IsMarked body → EndOfMessage (with_mark body) (body ∷ []) []
  pub chunks : (chunks : List (List ℕ))
      → IsCut written_chunk chunks → Chunked (in_chunks chunks) (concat chunks ∷ []) []

-- The byte of a bad frame is the first that no chunked stream has there: the stream before it is one, and
-- with it is none.
pub record IsFirstBad (framed rest : List ℕ) (messages : List (List ℕ)) (place : ℕ) : Type 0 where
  pub before : List ℕ
  pub byte : ℕ
  pub more : List ℕ
  pub bytes_are : framed ++ rest ≡ (framed ++ before) ++ byte ∷ more
  pub place_is : place ≡ length before
  pub chunked : Chunked (framed ++ before) messages before
  pub none : (others : List (List ℕ)) (other : List ℕ) → ¬ Chunked ((framed ++ before) ++ byte ∷ []) others other

-- the place of a bad frame is the first at which the bytes are no beginning of messages
abbrev pub BadFrameIsFirst : Type 0
BadFrameIsFirst = (messages : List (List ℕ)) (framed rest : List ℕ) (place : ℕ)
    → AreMessages Chunks framed messages → IsBad rest place → IsFirstBad framed rest messages place
