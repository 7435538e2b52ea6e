-- The children of each data node, kept as lists of their numbers.
use Rattle.std.specs.Prelude.{◌≡◌, ◌+◌, ◌<◌, ◌^◌, ℕ, Bool, false, List, [], Option, None, Some, length, slice_get, take, unwrap_or}
use Rattle.std.specs.Option.{option_map_or}
use Rattle.nc_schema.specs.Kinds.{holds_nodes}
use Rattle.nc_schema.specs.declared.node.Node.{Node}
use Rattle.nc_defaults.specs.Children.{children_of}

-- the place of the list of a parent: the top comes first
abbrev pub list_place : Option ℕ → ℕ
list_place None = 0
list_place (Some number) = number + 1

-- the list at that place; none past the last
abbrev pub list_at : List (List ℕ) → ℕ → List ℕ
list_at lists place = unwrap_or (slice_get lists place) []

-- each parent's list has its children among these data nodes
abbrev pub HaveChildren : List Node → List (List ℕ) → Type 0
HaveChildren nodes lists = (parent : Option ℕ) → list_at lists (list_place parent) ≡ children_of nodes parent

-- the lists of all parents, with the children among the first so many data nodes
pub record AreListsSoFar (nodes : List Node) (number : ℕ) (lists : List (List ℕ)) : Type 0 where
  pub long : length lists ≡ length nodes + 1
  pub children : HaveChildren (take number nodes) lists

-- with the children among all of them
pub record AreLists (nodes : List Node) (lists : List (List ℕ)) : Type 0 where
  pub few : length nodes < 2 ^ 32
  pub children : HaveChildren nodes lists

-- instances of the data node of a number are places
abbrev pub has_places_at : List Node → ℕ → Bool
has_places_at nodes number = option_map_or (λ node. holds_nodes node.kind) (slice_get nodes number) false
