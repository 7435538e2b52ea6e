-- What a reader of chunks has done, in the terms of the reading byte by byte.
use Rattle.std.specs.Prelude.{◌≡◌, ℕ, ◌+◌, List, ◌∷◌, ◌++◌, length, Option, Some, None}
use Rattle.nc_frames.specs.inner.Steps.{Reading, run, StopsAt}
use Rattle.nc_frames.specs.Framing.{capped}
use Rattle.nc_frames.specs.inner.Kept.{reading_of}
use Rattle.nc_frames.specs.declared.chunks.Reader.{Reader}
use Rattle.nc_frames.specs.declared.header.Header.TheVariants.{Start}
use Rattle.nc_frames.specs.declared.header.Stop.{Stop}
use Rattle.nc_frames.specs.declared.header.Stop.TheVariants.{End, Bad, TooBig}

-- a place is so many bytes further
abbrev pub IsFurther : ℕ → ℕ → ℕ → Type 0
IsFurther old new count = (place : ℕ) → old ≡ capped place → new ≡ capped (place + count)

-- of the bytes some are read, and `left` are left
pub record Advances (old : Reader) (bytes : List ℕ) (new : Reader) (left : List ℕ) : Type 0 where
  pub taken : List ℕ
  pub bytes_are : bytes ≡ taken ++ left
  pub reads : run taken (reading_of old) ≡ Some (reading_of new)
  pub further : IsFurther old.place new.place (length taken)

-- and the first that is left leads nowhere
pub record StopsBefore (old : Reader) (bytes : List ℕ) (new : Reader) (left : List ℕ) (why : Stop) : Type 0 where
  pub advances : Advances old bytes new left
  pub byte : ℕ
  pub rest : List ℕ
  pub left_is : left ≡ byte ∷ rest
  pub stops : StopsAt (reading_of new) byte why

-- a message is read to its end
pub record EndsMessage (old : Reader) (bytes : List ℕ) (new : Reader) (left : List ℕ) : Type 0 where
  pub taken : List ℕ
  pub byte : ℕ
  pub at : Reading
  pub bytes_are : bytes ≡ taken ++ byte ∷ left
  pub reads : run taken (reading_of old) ≡ Some at
  pub stops : StopsAt at byte End
  pub message : new.message ≡ at.message
  pub header : new.header ≡ Start
  pub none : new.left ≡ 0
  pub further : IsFurther old.place new.place (length taken + 1)

-- bytes are read up to a stop, if there was one: the end of a message, or a byte that leads nowhere
abbrev pub Turned : Option Stop → Reader → List ℕ → Reader → List ℕ → Type 0
Turned None old bytes new left = Advances old bytes new left
Turned (Some End) old bytes new left = EndsMessage old bytes new left
Turned (Some Bad) old bytes new left = StopsBefore old bytes new left Bad
Turned (Some TooBig) old bytes new left = StopsBefore old bytes new left TooBig
