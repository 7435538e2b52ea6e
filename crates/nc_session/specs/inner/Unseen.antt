-- What a session's inbox keeps: the framing, and a message that was taken from it and is not read yet.
use Rattle.std.specs.Prelude.{◌≡◌, ℕ, ◌+◌, List, ◌++◌, length, Option, Some, None, Result, Ok, Err}
use Rattle.nc_frames.specs.Framing.{Mode, IsMessage, IsUnfinished}
use Rattle.nc_frames.specs.Replies.{Unread, IsFaultOf, with_piece}
use Rattle.nc_frames.specs.inner.Kept.{Kept}
use Rattle.nc_frames.specs.declared.fault.FrameFault.{FrameFault}
use Rattle.nc_frames.specs.declared.fault.FrameFault.TheVariants.{Memory as FrameMemory}
use Rattle.nc_names.specs.declared.memory.Memory.{Memory}

-- what was taken of the stream and not given: bytes without a message, and a message
pub record Held : Type 0 where
  pub frames : Kept
  pub waiting : Option (List ℕ)

-- the next message stands at the front; what is after it is so
pub record Gives (After : ℕ → List ℕ → Type 0) (mode : Mode) (first : ℕ) (bytes body : List ℕ) : Type 0 where
  pub framed : List ℕ
  pub rest : List ℕ
  pub bytes_are : bytes ≡ framed ++ rest
  pub is_message : IsMessage mode framed body
  pub unread : After (first + length framed) rest

-- the same, where a message waits or none does
abbrev pub UnseenIn : Kept → Option (List ℕ) → Mode → ℕ → List ℕ → Type 0
UnseenIn kept None mode first bytes = Unread kept mode first bytes
UnseenIn kept (Some body) mode first bytes = Gives (Unread kept mode) mode first bytes body

-- no fault was answered; of the stream, the bytes from this place on were not given, and are framed in this mode
abbrev pub Unseen : Held → Mode → ℕ → List ℕ → Type 0
Unseen held mode first bytes = UnseenIn held.frames held.waiting mode first bytes

-- one piece more, if it was taken
abbrev pub Feeds : (ℕ → List ℕ → Type 0) → ℕ → List ℕ → List ℕ → Result (Unit {0}) Memory → Type 0
Feeds After first bytes piece result = After first (with_piece result bytes piece)

-- after each answer but a fault the stream shows no fault yet
abbrev pub GivesNext : (Mode → ℕ → List ℕ → Type 0) → Mode → ℕ → List ℕ → Result (Option (List ℕ)) FrameFault → Type 0
GivesNext After mode first bytes (Ok None) = After mode first bytes × IsUnfinished mode bytes
GivesNext After mode first bytes (Ok (Some body)) = Gives (After mode) mode first bytes body
GivesNext After mode first bytes (Err FrameMemory) = After mode first bytes
GivesNext After mode first bytes (Err fault) = IsFaultOf mode first bytes fault

-- a message that is given is held no longer
abbrev pub IsGone : Held → Result (Option (List ℕ)) FrameFault → Type 0
IsGone held (Ok (Some body)) = held.waiting ≡ None
IsGone held result = Unit {0}
