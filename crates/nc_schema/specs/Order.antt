-- Document order of the nodes of a data tree: a node before what is below it; among siblings the
-- keys of a list entry first, in the order of the `key` statement (RFC 7950 7.8.5), then the others by
-- their numbers, which follow the schema; the entries of one list or leaf-list that the system orders
-- (RFC 7950 7.7.7) by their keys or value.
use Rattle.std.specs.Prelude.{◌≡◌, ◌⊎◌, ◌==◌, ◌+◌, ◌<◌, ℕ, false, List, [], ◌∷◌, Option, Some, None, IsFalse, if◌then◌else◌, slice_get}
use Rattle.std.specs.Option.{option_map_or}
use Rattle.std.specs.Ordering.{nat_cmp}
use Rattle.std.specs.Cmp.Lexicographic.{slice_cmp}
use Rattle.std.specs.declared.cmp.Ordering.TheVariants.{Less}
use Rattle.nc_names.specs.declared.path.Step.{Step}
use Rattle.nc_names.specs.declared.path.Path.{Path}
use Rattle.nc_schema.specs.Tables.{Tables}

-- the keys of the list entry in which the nodes stand
abbrev pub keys_above : Tables → Option ℕ → List ℕ
keys_above tables None = []
keys_above tables (Some number) = option_map_or (λ node. node.keys) (slice_get tables.nodes number) []

-- a node's place among its siblings: the keys come first
abbrev pub sibling_place : List ℕ → ℕ → ℕ
sibling_place [] number = number
sibling_place (key ∷ keys) number = if number == key then 0 else sibling_place keys number + 1

-- the user does not order the entries of the node
abbrev pub IsSystemOrdered : Tables → ℕ → Type 0
IsSystemOrdered tables number = IsFalse (option_map_or (λ node. node.by_user) (slice_get tables.nodes number) false)

-- keys, or a value, before others: one key after another, each by its bytes
abbrev pub KeysBefore : List (List ℕ) → List (List ℕ) → Type 0
KeysBefore keys others = slice_cmp (slice_cmp nat_cmp) keys others ≡ Less

-- one sibling before another. Of two entries of a list that the user orders this says nothing
abbrev pub StepBefore : Tables → Option ℕ → Step → Step → Type 0
StepBefore tables above step other =
    (sibling_place (keys_above tables above) step.node < sibling_place (keys_above tables above) other.node)
    ⊎ ((step.node ≡ other.node) × IsSystemOrdered tables step.node × KeysBefore step.keys other.keys)

-- steps from one node before others from there
abbrev pub StepsBefore : Tables → Option ℕ → List Step → List Step → Type 0
StepsBefore tables above [] [] = ⊥
StepsBefore tables above [] (other ∷ others) = Unit {0}
StepsBefore tables above (step ∷ steps) [] = ⊥
StepsBefore tables above (step ∷ steps) (other ∷ others) =
    StepBefore tables above step other ⊎ ((step ≡ other) × StepsBefore tables (Some step.node) steps others)

-- a path before another
abbrev pub IsBefore : Tables → Path → Path → Type 0
IsBefore tables path other = StepsBefore tables None path.steps other.steps
