-- Rows that come first in two lists, or last.
use Rattle.std.specs.Prelude.{◌≡◌, ◌<◌, ◌≤◌, ℕ, List, drop, get_or, length, map}
use Rattle.std.proofs.Common.{Bor}
use Rattle.nc_names.specs.declared.path.Row.{Row}

-- the rows to which references lead
abbrev pub rows_of : List (Bor Row) → List Row
rows_of rows = map (λ row. row.now) rows

-- two lists have the same row, each at a place
abbrev pub AreSame : List Row → ℕ → List Row → ℕ → Type 0
AreSame rows at others place =
    (row : Row) × (at < length rows) × (place < length others)
    × (row ≡ get_or rows at row) × (row ≡ get_or others place row)

-- behind so many rows of each, and behind the first of both, the same ones follow
pub record AreSameBehind (rows others : List Row) (first one two : ℕ) : Type 0 where
  pub within : one ≤ length rows
  pub other : two ≤ length others
  pub above : first ≤ one
  pub over : first ≤ two
  pub same : drop one rows ≡ drop two others
