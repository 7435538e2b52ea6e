-- What Frames keeps of a stream, and the bytes that it stands for.
use Rattle.std.specs.Prelude.{◌≡◌, ℕ, ◌+◌, List, ◌++◌, length, Some}
use Rattle.nc_frames.specs.Framing.{Mode, Marks, Chunks, capped}
use Rattle.nc_frames.specs.inner.Steps.{Reading, start, run}
use Rattle.nc_frames.specs.inner.Marks.{IsOpen}
use Rattle.nc_frames.specs.declared.fault.FrameFault.{FrameFault}
use Rattle.nc_frames.specs.declared.frames.State.{State}
use Rattle.nc_frames.specs.declared.frames.State.TheVariants.{Marked, Chunked, Faulty}
use Rattle.nc_frames.specs.declared.chunks.Reader.{Reader}
use Rattle.nc_frames.specs.declared.header.Header.TheVariants.{Start}

-- With the mark: the place of the first byte that is not given, and the bytes that are not given. In
-- chunks: the place of the first byte that is not read, how far the message is read, and the bytes that
-- are not read. Or the fault that was answered.
pub data Kept : Type 0 where
  Marking : (place : ℕ) (bytes : List ℕ) → Kept
  Chunking : (place : ℕ) (reading : Reading) (bytes : List ℕ) → Kept
  Failed : (fault : FrameFault) → Kept

-- how far a reader has come in a message of chunks
abbrev pub reading_of : Reader → Reading
reading_of r = record { header = r.header; left = r.left; message = r.message }

-- what a reader stands for, with the bytes that are to be read again, which come in chunks alone, and those that wait
abbrev pub kept_of : State → Reader → List ℕ → List ℕ → Kept
kept_of Marked r earlier waiting = Marking r.place (r.message ++ waiting)
kept_of Chunked r earlier waiting = Chunking r.place (reading_of r) (earlier ++ waiting)
kept_of (Faulty fault) r earlier waiting = Failed fault

-- with the mark, what has come of a message holds no mark and is not too long, and no header has come
abbrev pub IsSound : State → Reader → Type 0
IsSound Marked r = IsOpen r.message × (r.header ≡ Start) × (r.left ≡ 0)
IsSound Chunked r = Unit {0}
IsSound (Faulty fault) r = Unit {0}

-- messages end with the mark, and no fault was answered
abbrev pub IsMarking : Kept → Type 0
IsMarking kept = (place : ℕ) × (bytes : List ℕ) × (kept ≡ Marking place bytes)

-- messages come in chunks, and no fault was answered
abbrev pub IsChunking : Kept → Type 0
IsChunking kept = (place : ℕ) × (reading : Reading) × (bytes : List ℕ) × (kept ≡ Chunking place reading bytes)

-- one piece more
abbrev pub fed : Kept → List ℕ → Kept
fed (Marking place bytes) piece = Marking place (bytes ++ piece)
fed (Chunking place reading bytes) piece = Chunking place reading (bytes ++ piece)
fed (Failed fault) piece = Failed fault

-- part of the bytes is read: the message has come this far, and the rest is to be read
pub record IsReadTo (place : ℕ) (reading : Reading) (left : List ℕ) (first : ℕ) (bytes : List ℕ) : Type 0 where
  pub taken : List ℕ
  pub bytes_are : bytes ≡ taken ++ left
  pub reads : run taken start ≡ Some reading
  pub place_is : place ≡ capped (first + length taken)

-- no fault was answered, and these bytes are not given
abbrev pub IsUnread : Kept → Mode → ℕ → List ℕ → Type 0
IsUnread (Marking place bytes) Marks first unread = (place ≡ capped first) × (bytes ≡ unread)
IsUnread (Marking place bytes) Chunks first unread = ⊥
IsUnread (Chunking place reading bytes) Marks first unread = ⊥
IsUnread (Chunking place reading bytes) Chunks first unread = IsReadTo place reading bytes first unread
IsUnread (Failed fault) mode first unread = ⊥
