-- The header of an area, by which a store knows its own files: the number of modules in four bytes, the text of each
-- with its length in four bytes before it, and the text of the features with its length in eight. Where one begins it
-- can end at one place alone.
use Rattle.std.specs.Prelude.{◌≡◌, ◌≢◌, ℕ, ◌<◌, ◌≤◌, ◌^◌, List, [], ◌++◌, length, take, get_or, All}
use Rattle.std.specs.Int.{to_be_bytes, w32}
use Rattle.std.specs.List.{flat_map}
use Rattle.nc_journal.specs.Format.{number}
use Rattle.nc_journal.specs.Files.{At}

-- a number in four bytes, the highest first
unfoldable pub short_number : ℕ → List ℕ
short_number n = to_be_bytes w32 n

-- a text with its length in four bytes before it
abbrev pub counted : List ℕ → List ℕ
counted text = short_number (length text) ++ text

-- the bytes of a header
abbrev pub header_of : List (List ℕ) → List ℕ → List ℕ
header_of modules features =
    short_number (length modules) ++ (flat_map counted modules ++ (number (length features) ++ features))

-- the header of these modules and features, whose numbers fit in their bytes
pub record IsHeader (modules : List (List ℕ)) (features header : List ℕ) : Type 0 where
  pub is : header ≡ header_of modules features
  pub few : length modules < 2 ^ 32
  pub small : All (λ text. length text < 2 ^ 32) modules
  pub fits : length features < 2 ^ 64

-- some header stands at this place of a file
pub record HasHeader (place : ℕ) (file : List ℕ) : Type 0 where
  pub modules : List (List ℕ)
  pub features : List ℕ
  pub header : List ℕ
  pub is : IsHeader modules features header
  pub stands : At place header file

-- the lists are the same before this number, and there they differ or one of them ends
pub record DiffersAt (ours theirs : List (List ℕ)) (at : ℕ) : Type 0 where
  pub same : take at ours ≡ take at theirs
  pub within_ours : at ≤ length ours
  pub within_theirs : at ≤ length theirs
  pub next : at < length ours → at < length theirs → get_or ours at [] ≢ get_or theirs at []
