-- What every crash image of a disk has while a journal is at rest, and while one byte of its file is in doubt.
use Rattle.std.specs.Prelude.{◌≡◌, ℕ, ◌+◌, ◌≤◌, Bool, not, List, [], ◌∷◌, length}
use Rattle.nc_journal.specs.Format.{chooser_place, chooser, framed, gate_place}
use Rattle.nc_names.specs.Limits.{body_limit}
use Rattle.nc_journal.specs.Files.{At, HasArea}

-- at rest: the chooser chooses the live area, and its gate is closed
pub record IsClean (header : List ℕ) (second : Bool) (place : ℕ) (bodies : List (List ℕ)) (file : List ℕ) : Type 0 where
  pub chosen : At chooser_place (chooser second ∷ []) file
  pub live : HasArea header second place bodies file
  pub closed : At (gate_place header bodies place) (0 ∷ []) file

-- the gate is any byte, and a whole record stands after it
pub record HasOpenGate (header : List ℕ) (second : Bool) (place : ℕ) (bodies : List (List ℕ)) (body file : List ℕ)
    : Type 0 where
  pub chosen : At chooser_place (chooser second ∷ []) file
  pub live : HasArea header second place bodies file
  pub small : length body ≤ body_limit
  pub behind : At (gate_place header bodies place + 1) (framed body) file

-- the chooser is any byte, and both slots name areas whose gates are closed
pub record HasOpenChooser (header : List ℕ) (second : Bool) (place : ℕ) (bodies : List (List ℕ)) (other : ℕ)
    (others : List (List ℕ)) (file : List ℕ) : Type 0 where
  pub live : HasArea header second place bodies file
  pub closed : At (gate_place header bodies place) (0 ∷ []) file
  pub next : HasArea header (not second) other others file
  pub next_closed : At (gate_place header others other) (0 ∷ []) file
