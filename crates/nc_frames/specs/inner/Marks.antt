-- What the search for the mark says of the bytes that it has passed.
use Rattle.std.specs.Prelude.{◌≡◌, ◌≢◌, ℕ, ◌+◌, ◌<◌, ◌≤◌, Bool, true, false, List, [], ◌∷◌, ◌++◌, length, slice_index, Option, Result, Ok, Err}
use Rattle.nc_names.specs.Signs.{greater_than}
use Rattle.nc_names.specs.declared.memory.Memory.{Memory as NoMemory}
use Rattle.nc_frames.specs.Framing.{HasNoMark, IsMarked, with_mark, marked_limit}
use Rattle.nc_frames.specs.declared.fault.FrameFault.{FrameFault}
use Rattle.nc_frames.specs.declared.fault.FrameFault.TheVariants.{BadFrame, TooBig, Memory}

-- what holds after every answer but a fault of the stream
abbrev pub UnlessFault : Result (Option (List ℕ)) FrameFault → Type 0 → Type 0
UnlessFault (Ok found) P = P
UnlessFault (Err Memory) P = P
UnlessFault (Err (BadFrame at)) P = Unit {0}
UnlessFault (Err (TooBig at)) P = Unit {0}

-- the bytes hold no mark, and may have one more
pub record IsOpen (bytes : List ℕ) : Type 0 where
  pub unmarked : HasNoMark bytes
  pub within : length bytes < marked_limit

-- the bytes end in their first mark
pub record EndsInMark (bytes : List ℕ) : Type 0 where
  pub message : List ℕ
  pub bytes_are : bytes ≡ with_mark message
  pub marked : IsMarked message

-- what a search for the mark has found: it; no mark in as many bytes as may come, or in all that wait;
-- or no memory
abbrev pub Searched : Result Bool NoMemory → List ℕ → List ℕ → Type 0
Searched (Ok true) message waiting = EndsInMark message
Searched (Ok false) message waiting = HasNoMark message × (length message < marked_limit → waiting ≡ [])
Searched (Err memory) message waiting = IsOpen message

-- how many bytes a stretch takes: at least one, at most so many, and `>` only as the last
pub record IsStretchOf (bytes : List ℕ) (most count : ℕ) : Type 0 where
  pub some : 0 < count
  pub within : count ≤ length bytes
  pub room : count ≤ most
  pub before : (k : ℕ) → k + 1 < count → slice_index bytes k ≢ greater_than

-- some bytes were put at the end, of which only the last may be `>`
pub record IsStretch (old new : List ℕ) : Type 0 where
  pub front : List ℕ
  pub last : ℕ
  pub new_is : new ≡ old ++ (front ++ last ∷ [])
  pub none : (k : ℕ) → k < length front → slice_index front k ≢ greater_than
