-- The rows that stay when those at a node give way to others (RFC 7950 7.9), and their two sides.
use Rattle.std.specs.Prelude.{◌||◌, ◌++◌, ℕ, Bool, not, List, None}
use Rattle.std.specs.List.{filter, list_any}
use Rattle.nc_names.specs.Same.{is_at_or_below}
use Rattle.nc_names.specs.declared.path.Row.{Row}
use Rattle.nc_names.specs.declared.path.Step.{Step}
use Rattle.nc_schema.specs.Standing.{excludes}
use Rattle.nc_schema.specs.Tables.{Tables}
use Rattle.nc_branches.specs.Orders.{before_in}

-- a row is not at or below the node, nor of another case than a new row
unfoldable pub stays : Tables → List Step → List Row → Row → Bool
stays tables steps block row =
    not (is_at_or_below steps row.path || list_any (λ added. excludes tables added.path.steps row.path.steps) block)

-- a row stands before the node, by the orders along the path to it
unfoldable pub is_front : Tables → List (List (List (List ℕ))) → List Step → Row → Bool
is_front tables orders steps row = before_in tables orders None row.path.steps steps

-- rows among those that stay
abbrev pub among : Tables → List (List (List (List ℕ))) → List Step → List Row → List Row → List Row
among tables orders steps block rows =
    let others = filter (stays tables steps block) rows in
    filter (is_front tables orders steps) others ++ block
    ++ filter (λ row. not (is_front tables orders steps row)) others
