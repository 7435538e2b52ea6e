-- Parents and children among data nodes (RFC 7950 7.5 to 7.8).
use Rattle.std.specs.Prelude.{◌≡◌, ℕ, ◌+◌, ◌^◌, ◌<◌, length, List, Option, Some, None, IfSome, take, slice_get, Bool, false, true, ◌&&◌, ◌==◌}
use Rattle.std.specs.List.{All, position}
use Rattle.nc_names.specs.declared.name.QName.{QName}
use Rattle.nc_schema.specs.declared.node.Node.{Node}
use Rattle.nc_names.specs.Same.{is_same_name}
use Rattle.nc_schema.specs.Tables.{Tables}

-- a node of that name that stands in that parent, or at the top
abbrev pub IsChild : Option ℕ → QName → Node → Type 0
IsChild parent name node = (node.parent ≡ parent) × (node.name ≡ name)

-- the number of the first node of that name in that parent; none exactly where there is no such node
abbrev pub IsFirstChild : List Node → Option ℕ → QName → Option ℕ → Type 0
IsFirstChild nodes parent name None = All (λ node. ¬ IsChild parent name node) nodes
IsFirstChild nodes parent name (Some number) =
    ((node : Node) × (slice_get nodes number ≡ Some node) × IsChild parent name node) ×
    All (λ node. ¬ IsChild parent name node) (take number nodes)

-- a parent has a lower number than the nodes in it
abbrev pub IsAbove : Option ℕ → ℕ → Type 0
IsAbove parent number = IfSome parent (λ above. above < number)

-- so it is at each node of the list
abbrev pub HasLowerParents : List Node → Type 0
HasLowerParents nodes = (number : ℕ) → IfSome (slice_get nodes number) (λ node. IsAbove node.parent number)

-- one more fits: with it there are fewer than 2 ^ 32
abbrev pub HasRoom : {A : Type 0} → List A → Type 0
HasRoom things = length things + 1 < 2 ^ 32

-- what is true of the data nodes of every schema
pub record IsListOfNodes (nodes : List Node) : Type 0 where
  pub few : length nodes < 2 ^ 32
  pub lower : HasLowerParents nodes

-- two nodes stand in one parent, or both at the top
abbrev pub is_same_number : Option ℕ → Option ℕ → Bool
is_same_number None None = true
is_same_number (Some a) (Some b) = a == b
is_same_number a b = false

-- the number of the first data node of that name in that parent, or at the top
abbrev pub child_number : Tables → Option ℕ → QName → Option ℕ
child_number tables parent name =
    position (λ node. is_same_number node.parent parent && is_same_name node.name name) tables.nodes
