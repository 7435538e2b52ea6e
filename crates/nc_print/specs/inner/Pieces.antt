-- The first piece of a text.
use Rattle.std.specs.Prelude.{◌≡◌, ◌<◌, ◌+◌, ℕ, List, [], ◌∷◌, length, take, drop}
use Rattle.std.specs.List.{slice_split}
use Rattle.nc_protocol.specs.ModuleNames.{is_apart}

-- the text is one piece
abbrev pub IsOnePiece : List ℕ → Type 0
IsOnePiece text = slice_split is_apart text ≡ text ∷ []

-- the first piece ends there, and others come after it
pub record EndsAt (text : List ℕ) (end : ℕ) : Type 0 where
  pub within : end < length text
  pub pieces : slice_split is_apart text ≡ take end text ∷ slice_split is_apart (drop (end + 1) text)
