-- Which entries of lists and leaf-lists have a row.
use Rattle.std.specs.Prelude.{◌≡◌, ◌≤◌, ℕ, true, if◌then◌else◌, List, length}
use Rattle.std.specs.List.{filter}
use Rattle.nc_names.specs.Same.{is_same_path}
use Rattle.nc_names.specs.declared.path.Row.{Row}
use Rattle.nc_names.specs.declared.path.Step.{Step}
use Rattle.nc_schema.specs.Standing.{has_row}
use Rattle.nc_schema.specs.Tables.{Tables}
use Rattle.nc_branches.specs.Entries.{is_entry}
use Rattle.nc_branches.specs.Sides.{among}

-- how many rows stand at a path
abbrev pub count_of : List Row → List Step → ℕ
count_of rows steps = length (filter (λ row. is_same_path row.path.steps steps) rows)

-- no entry has two rows, and each that has one is known
unfoldable pub IsTallied : List Row → List Row → Type 0
IsTallied known rows =
    (steps : List Step) → is_entry steps ≡ true → count_of rows steps ≤ (if has_row known steps then 1 else 0)

-- with other rows at a path and below it, these entries are known
unfoldable pub KeepsTally : List Row → List Step → List Row → List Row → Type 0
KeepsTally known steps block now =
    (tables : Tables) (orders : List (List (List (List ℕ)))) (rows : List Row) →
    IsTallied known rows → IsTallied now (among tables orders steps block rows)
