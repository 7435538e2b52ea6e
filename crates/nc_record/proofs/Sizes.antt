-- The size of a record: it has more bytes than rows, and more than each value.
use Rattle.std.proofs.Common.{◌≡◌, ◌<◌, ◌≤◌, ◌+◌, ◌^◌, ℕ, List, [], ◌∷◌, length, map, arith}
use Rattle.std.specs.List.{All, sum}
use Rattle.std.proofs.lemmas.List.Elements.{All-cons}
use Rattle.std.proofs.lemmas.List.Sums.{sum_by-cons}
use Rattle.nc_names.specs.Limits.{body_limit}
use Rattle.nc_names.specs.declared.path.Row.{Row}
use Rattle.nc_schema.specs.Record.{record_size, value_bytes}
use Rattle.nc_record.specs.inner.Given.{AreShort}

-- how many bytes a row takes
abbrev size_of : Row → ℕ
size_of row = 8 + length (value_bytes row)

sizes_more : (row : Row) (rows : List Row) → sum (map size_of (row ∷ rows)) ≡ size_of row + sum (map size_of rows)
sizes_more row rows = sum_by-cons (λ n. n) (size_of row) (map size_of rows)

few : (rows : List Row) → length rows ≤ sum (map size_of rows)
few [] = omega arith
few (row ∷ rows) = let more = sizes_more row rows in let rest = few rows in omega (arith, more, rest)

short : (rows : List Row) (limit : ℕ) → sum (map size_of rows) ≤ limit → limit < 2 ^ 32 → AreShort rows
short [] limit small below = λ k d less. absurd (omega (arith, less))
short (row ∷ rows) limit small below =
    let more = sizes_more row rows in
    All-cons (λ (r : Row). length (value_bytes r) < 2 ^ 32) row rows (omega (arith, more, small, below)) (short rows limit (omega (arith, more, small)) below)

pub few_rows : (rows : List Row) → record_size rows ≤ body_limit → length rows < 2 ^ 32
few_rows rows small = let h = few rows in omega (arith, h, small)

pub short_values : (rows : List Row) → record_size rows ≤ body_limit → AreShort rows
short_values rows small = short rows body_limit (omega (arith, small)) (omega arith)
