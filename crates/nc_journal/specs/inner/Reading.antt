-- How a file is read.
use Rattle.std.specs.Prelude.{◌≡◌, ◌≢◌, ℕ, Bool, List, [], ◌++◌, ◌∷◌, ◌+◌, length, slice_get, Option, Some, ◌≤◌}
use Rattle.nc_outside.specs.Disks.{Same, Passes}
use Rattle.nc_journal.specs.Format.{gate_place}
use Rattle.nc_journal.specs.Images.{IsClean}

-- a stretch of calls that only read
pub record OnlyReads {D : Type 0} (seen : D → Option (List ℕ)) (may_leave : D → List ℕ → Type 0) (moment : D → ℕ)
    (left_since : D → ℕ → List ℕ → Type 0) (old new : D) : Type 0 where
  pub same : seen new ≡ seen old
  pub passes : Passes may_leave moment left_since Same old new

-- these bodies of an area were read, and the byte that stands after them
pub record HasWalked (header : List ℕ) (place : ℕ) (bodies : List (List ℕ)) (file : List ℕ) (done : List (List ℕ))
    (at byte : ℕ) : Type 0 where
  pub rest : List (List ℕ)
  pub whole : bodies ≡ done ++ rest
  pub there : at ≡ gate_place header done place
  pub byte_is : slice_get file at ≡ Some byte

-- a disk at rest, whose live area is here, with these bodies and its gate there
pub record IsOpened {D : Type 0} (may_leave : D → List ℕ → Type 0) (header : List ℕ) (bodies : List (List ℕ))
    (second : Bool) (start gate : ℕ) (disk : D) : Type 0 where
  pub gate_is : gate ≡ gate_place header bodies start
  pub images : (c : List ℕ) → may_leave disk c → IsClean header second start bodies c
