-- The steps of a session's reader.
use Rattle.std.specs.Prelude.{◌≡◌, ◌≢◌, ℕ, List, [], length, None, Result, Ok, Err}
use Rattle.nc_frames.specs.declared.fault.FrameFault.{FrameFault}
use Rattle.nc_frames.specs.declared.fault.FrameFault.TheVariants.{BadFrame as FrameBad, TooBig as FrameTooBig, Memory as FrameMemory}
use Rattle.nc_names.specs.declared.memory.Memory.{Memory}
use Rattle.nc_protocol.specs.declared.request.Request.{Request}
use Rattle.nc_session.specs.declared.base.Base.{Base}
use Rattle.nc_session.specs.declared.end.SessionEnd.{SessionEnd}
use Rattle.nc_session.specs.declared.end.SessionEnd.TheVariants.{BadFrame, TooBig}
use Rattle.nc_session.specs.declared.session_core.Phase.TheVariants.{Greeting}
use Rattle.nc_session.specs.declared.session_core.Todo.{Todo}
use Rattle.nc_session.specs.Asks.{mode_of, AsksFirst, AsksAll}
use Rattle.nc_session.specs.Cores.{Core, IsAt, IsChosen, IsTodo}
use Rattle.nc_session.specs.inner.Unseen.{Gives}

-- the hello was read, or more bytes are needed for it; want of memory loses nothing
abbrev pub Meets : Core → Base → List ℕ → List Request → Result (Unit {0}) Memory → Type 0
Meets core before bytes given (Ok u) =
    (base : Base) × IsChosen given before base × IsAt core base bytes given
    × (core.phase ≡ Greeting → AsksAll base bytes given None)
Meets core before bytes given (Err memory) = IsAt core before bytes given

-- the hello was taken or not
abbrev pub HasMet : Core → Base → List ℕ → Result (Unit {0}) Memory → Type 0
HasMet core before bytes (Ok u) = (base : Base) × IsAt core base bytes [] × (core.phase ≢ Greeting)
HasMet core before bytes (Err memory) = IsAt core before bytes []

-- the next request, of a session that has its version of the protocol
abbrev pub GivesMore : Core → Base → List ℕ → List Request → Result Todo Memory → Type 0
GivesMore core base bytes given (Ok todo) = IsTodo core base bytes given todo
GivesMore core base bytes given (Err memory) = IsAt core base bytes given

-- after the requests that were given stands a message with these bytes
pub record Takes (After : ℕ → List ℕ → Type 0) (base : Base) (bytes : List ℕ) (given : List Request) (body : List ℕ)
    : Type 0 where
  pub first : AsksFirst base bytes given
  pub gives : Gives After (mode_of base) (length first.front) first.rest body

-- the end that a fault of the framing is
abbrev pub IsStreamEnd : FrameFault → Result SessionEnd Memory → Type 0
IsStreamEnd (FrameBad at) (Ok end) = end ≡ BadFrame at
IsStreamEnd (FrameTooBig at) (Ok end) = end ≡ TooBig at
IsStreamEnd FrameMemory (Err memory) = Unit {0}
IsStreamEnd fault result = ⊥
