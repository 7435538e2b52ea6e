-- Rows that are asked whether they are updated.
use Rattle.std.specs.Prelude.{◌≡◌, ◌++◌, ◌||◌, if◌then◌else◌, Bool, true, false, not, List}
use Rattle.std.specs.Cmp.Lexicographic.{slice_cmp}
use Rattle.std.specs.List.{filter, list_all, list_any}
use Rattle.std.specs.Option.{option_map_or}
use Rattle.std.specs.Ordering.{is_lt}
use Rattle.std.specs.declared.cmp.Ordering.{Ordering}
use Rattle.nc_names.specs.contracts.path.StepOrd.TheImpl.{ghosts}
use Rattle.nc_names.specs.declared.path.Row.{Row}
use Rattle.nc_names.specs.declared.path.Step.{Step}
use Rattle.nc_schema.specs.Standing.{node_of}
use Rattle.nc_schema.specs.Tables.{Tables}
use Rattle.nc_protocol.specs.Changes.{is_updated}

-- steps are ordered by their nodes, then by their keys
abbrev pub order : List Step → List Step → Ordering
order steps others = slice_cmp ghosts.cmp steps others

-- a row comes after steps
abbrev pub is_above : List Step → Row → Bool
is_above highest row = is_lt (order highest row.path.steps)

-- no row comes after steps
abbrev pub are_below : List Step → List Row → Bool
are_below highest rows = list_all (λ row. not (is_above highest row)) rows

-- steps lead to an entry that the user orders
abbrev pub is_ordered : Tables → List Step → Bool
is_ordered tables steps = option_map_or (λ node. node.by_user) (node_of tables steps) false

-- with rows that both have there are as many updated ones among those that are asked
abbrev pub AddsAsked : Tables → List Step → List Row → List Row → List Row → List Step → Type 0
AddsAsked tables highest rows asked more last =
    (old new before after : List Row) → old ≡ before ++ (rows ++ after) → are_below highest before ≡ true →
    (are_below last (before ++ rows) ≡ true)
    × (filter (is_updated tables old new) more ≡ filter (is_updated tables old new) (asked ++ rows))

-- the updated rows are among those that are asked
abbrev pub AreAsked : Tables → List Row → List Row → List Row → List Row → List Row → Type 0
AreAsked tables front gone come back asked =
    filter (is_updated tables (front ++ (gone ++ back)) (front ++ (come ++ back))) asked
    ≡ filter (is_updated tables (front ++ (gone ++ back)) (front ++ (come ++ back))) (front ++ (come ++ back))

-- a row is an entry that the user orders
abbrev pub is_placed : Tables → Row → Bool
is_placed tables row = is_ordered tables row.path.steps

-- such an entry goes or comes
abbrev pub may_move : Tables → List Row → List Row → Bool
may_move tables gone come = list_any (is_placed tables) gone || list_any (is_placed tables) come

-- the rows that are asked where no two rows that stood have one path
abbrev pub asked_apart : Tables → List Row → List Row → List Row → List Row → List Row
asked_apart tables front gone come back =
    if may_move tables gone come then filter (is_placed tables) front ++ (come ++ filter (is_placed tables) back) else come
