-- Paths to nodes of a data tree (RFC 7950 9.13): one step for each data node from the top.
use Rattle.std.specs.Prelude.{◌≡◌, ◌≢◌, ◌⊎◌, ℕ, List, [], ◌∷◌, length, Option, Some, None, IsSomeAnd, slice_get}
use Rattle.std.specs.List.{All}
use Rattle.nc_names.specs.declared.path.Step.{Step}
use Rattle.nc_names.specs.declared.path.Path.{Path}
use Rattle.nc_schema.specs.declared.node.Kind.{Kind}
use Rattle.nc_schema.specs.declared.node.Kind.TheVariants.{Container, Leaf, LeafList, List as ListKind}
use Rattle.nc_schema.specs.declared.node.Node.{Node}
use Rattle.nc_schema.specs.Tables.{Tables}

-- how many keys name an instance of a node among its siblings: those of a list, and the value of a
-- leaf-list (RFC 7950 7.7, 7.8.2)
abbrev pub key_count : Kind → ℕ → ℕ
key_count (Container presence) keys = 0
key_count Leaf keys = 0
key_count LeafList keys = 1
key_count ListKind keys = keys

-- a step to an instance: it has all its keys
abbrev pub HasAllKeys : Node → Step → Type 0
HasAllKeys node step = length step.keys ≡ key_count node.kind (length node.keys)

-- a step to a data node in the node above, or at the top: it has all its keys, or none, as where a
-- list is named without an entry
abbrev pub IsStepIn : Tables → Option ℕ → Step → Type 0
IsStepIn tables above step =
    IsSomeAnd (slice_get tables.nodes step.node) (λ node. (node.parent ≡ above) ×
    (HasAllKeys node step ⊎ (step.keys ≡ [])))

-- each step is in the node of the step before
abbrev pub LeadDown : Tables → Option ℕ → List Step → Type 0
LeadDown tables above [] = Unit {0}
LeadDown tables above (step ∷ rest) = IsStepIn tables above step × LeadDown tables (Some step.node) rest

-- a path that names a data node: an instance, or a list or leaf-list without an entry
pub record NamesNodeOf (tables : Tables) (path : Path) : Type 0 where
  pub steps : path.steps ≢ []
  pub down : LeadDown tables None path.steps

-- a path that names an instance of a data node
pub record IsPathOf (tables : Tables) (path : Path) : Type 0 where
  pub names : NamesNodeOf tables path
  pub instances : All (λ step. IsSomeAnd (slice_get tables.nodes step.node) (λ node. HasAllKeys node step)) path.steps
