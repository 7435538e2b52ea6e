-- What is true of the schema that modules define (RFC 7950 5.1, 6.2, 7.5 to 7.9, 9).
use Rattle.std.specs.Prelude.{◌≡◌, ◌≢◌, ◌<◌, ◌≤◌, ◌↔◌, ◌++◌, [], ◌∷◌, ℕ, Bool, List, length, Option, Some}
use Rattle.std.specs.Prelude.{IsTrue, IsFalse, IsSome, IfSome, IsSomeAnd, slice_get}
use Rattle.std.specs.List.{All, AllPairs, Any}
use Rattle.nc_names.specs.declared.name.Module.{Module}
use Rattle.nc_names.specs.declared.name.QName.{QName}
use Rattle.nc_names.specs.Identifiers.{IsIdentifier}
use Rattle.nc_schema.specs.declared.node.Case.{Case}
use Rattle.nc_schema.specs.declared.node.Kind.TheVariants.{Leaf, List as ListKind}
use Rattle.nc_schema.specs.declared.node.Node.{Node}
use Rattle.nc_schema.specs.declared.value_type.ValueType.{ValueType}
use Rattle.nc_schema.specs.declared.value_type.ValueType.TheVariants.{Decimal, Bits, Union, Identity, Leafref}
use Rattle.nc_schema.specs.Kinds.{holds_nodes, has_entries, has_value, is_leaf, is_list}
use Rattle.nc_schema.specs.Tables.{Tables}

-- so it is with each data node and its number
abbrev pub EachNode : Tables → (ℕ → Node → Type 0) → Type 0
EachNode tables P = (number : ℕ) (node : Node) → slice_get tables.nodes number ≡ Some node → P number node

-- a module has an identifier for its name and has a namespace (RFC 7950 7.1)
pub record IsProperModule (found : Module) : Type 0 where
  pub name : IsIdentifier found.name
  pub space : found.space ≢ []

-- a data node stands in a container or a list, which has a lower number (RFC 7950 7.5, 7.8)
abbrev pub StandsIn : Tables → ℕ → Option ℕ → Type 0
StandsIn tables number parent =
    IfSome parent (λ above. (above < number) ×
    IsSomeAnd (slice_get tables.nodes above) (λ over. IsTrue (holds_nodes over.kind)))

-- its name is an identifier in the namespace of its module (RFC 7950 5.3, 6.2)
pub record IsNamed (tables : Tables) (node : Node) : Type 0 where
  pub name : IsIdentifier node.name.name
  pub space : IsSomeAnd (slice_get tables.modules node.module) (λ found. found.space ≡ node.name.space)

-- a key of a list is a leaf directly in it (RFC 7950 7.8.2), and so in no case
pub record IsKeyIn (number : ℕ) (node : Node) : Type 0 where
  pub kind : node.kind ≡ Leaf
  pub parent : node.parent ≡ Some number
  pub cases : node.cases ≡ []

-- a list has keys, each once, and no other data node has any (RFC 7950 7.8.2)
pub record HasItsKeys (tables : Tables) (number : ℕ) (node : Node) : Type 0 where
  pub some : (node.kind ≡ ListKind) ↔ (node.keys ≢ [])
  pub leafs : All (λ key. IsSomeAnd (slice_get tables.nodes key) (IsKeyIn number)) node.keys
  pub apart : AllPairs (λ key later. key ≢ later) node.keys

-- the cases are of choices in that place, each choice within the cases before (RFC 7950 7.9)
abbrev pub AreNested : Tables → Option ℕ → List Case → Type 0
AreNested tables parent cases =
    (before after : List Case) (one : Case) → cases ≡ before ++ one ∷ after →
    IsSomeAnd (slice_get tables.choices one.choice) (λ choice. (choice.parent ≡ parent) × (choice.within ≡ before))

-- those data nodes stand one in another, the first in that one
abbrev pub IsChain : Tables → ℕ → List ℕ → Type 0
IsChain tables above [] = Unit {0}
IsChain tables above (number ∷ rest) =
    IsSomeAnd (slice_get tables.nodes number) (λ node. node.parent ≡ Some above) × IsChain tables number rest

-- a container (RFC 7950 7.5)
abbrev pub IsContainer : Tables → ℕ → Type 0
IsContainer tables number =
    IsSomeAnd (slice_get tables.nodes number) (λ node. IsTrue (holds_nodes node.kind) × IsFalse (is_list node.kind))

-- a leaf of a `unique` statement stands in the list, or in containers in it (RFC 7950 7.8.3)
pub record IsUniqueIn (tables : Tables) (number leaf : ℕ) : Type 0 where
  pub kind : IsSomeAnd (slice_get tables.nodes leaf) (λ node. node.kind ≡ Leaf)
  pub between : List ℕ
  pub chain : IsChain tables number (between ++ leaf ∷ [])
  pub containers : All (IsContainer tables) between

-- a list alone has `unique` statements, each with leafs
abbrev pub HasItsUniques : Tables → ℕ → Node → Type 0
HasItsUniques tables number node = All (λ leafs. (leafs ≢ []) × All (IsUniqueIn tables number) leafs) node.uniques

-- leafs have at most one default, leaf-lists any number (RFC 7950 7.6.4, 7.7.4)
abbrev pub HasItsDefaults : Node → Type 0
HasItsDefaults node = IsTrue (is_leaf node.kind) → length node.defaults ≤ 1

-- a leafref turns down at a node above the leaf or leaf-list (RFC 7950 9.9.2)
abbrev pub TurnsAbove : Tables → ℕ → Node → Type 0
TurnsAbove tables number node =
    (target above : ℕ) (required : Bool) →
    slice_get tables.types node.kind_of_value ≡ Some (Leafref target (Some above) required) →
    IsTrue (has_value node.kind) →
    (between : List ℕ) × IsChain tables above (between ++ number ∷ [])

-- an identity is one of a module (RFC 7950 7.18)
abbrev pub IsIdentityOf : Tables → QName → Type 0
IsIdentityOf tables name = IsIdentifier name.name × Any (λ found. found.space ≡ name.space) tables.modules

-- a type names types and data nodes of the schema (RFC 7950 9)
abbrev pub IsProperType : Tables → ValueType → Type 0
IsProperType tables (Decimal digits among) = (1 ≤ digits) × (digits ≤ 18)
IsProperType tables (Bits names) = AllPairs (λ name later. name ≢ later) names
IsProperType tables (Union members) = All (λ member. IsSome (slice_get tables.types member)) members
IsProperType tables (Identity among) = All (IsIdentityOf tables) among
IsProperType tables (Leafref target above required) =
    IsSomeAnd (slice_get tables.nodes target) (λ node. IsTrue (has_value node.kind))
IsProperType tables other = Unit {0}

-- the modules of a schema
pub record AreModules (tables : Tables) : Type 0 where
  -- their names are identifiers, and they have namespaces (RFC 7950 7.1)
  pub modules : All IsProperModule tables.modules
  -- two have two names and two namespaces (RFC 7950 5.1, 5.3)
  pub modules_apart : AllPairs (λ one later. (one.name ≢ later.name) × (one.space ≢ later.space)) tables.modules

-- the data nodes and choices of a schema in their places
pub record AreInPlace (tables : Tables) : Type 0 where
  -- each node stands in a container or a list, which has a lower number (RFC 7950 7.5, 7.8)
  pub parents : EachNode tables (λ number node. StandsIn tables number node.parent)
  -- its name is an identifier in the namespace of its module (RFC 7950 5.3, 6.2)
  pub names : EachNode tables (λ number node. IsNamed tables node)
  -- two data nodes in one place have two names (RFC 7950 6.2.1)
  pub siblings_apart : EachNode tables (λ number node. EachNode tables (λ other beside.
      node.parent ≡ beside.parent → node.name ≡ beside.name → number ≡ other))
  -- keys are leafs directly in their list, each once (RFC 7950 7.8.2)
  pub keys : EachNode tables (HasItsKeys tables)
  -- `unique` leafs stand in their list, or in containers in it (RFC 7950 7.8.3)
  pub uniques : EachNode tables (HasItsUniques tables)
  -- the user orders entries alone (RFC 7950 7.7.7)
  pub by_user : EachNode tables (λ number node. IsTrue node.by_user → IsTrue (has_entries node.kind))
  -- cases are of choices in the same place (RFC 7950 7.9)
  pub cases : EachNode tables (λ number node. AreNested tables node.parent node.cases)
  pub outer_cases : All (λ choice. AreNested tables choice.parent choice.within) tables.choices

-- the types of a schema
pub record AreTypesProper (tables : Tables) : Type 0 where
  -- a leaf and a leaf-list have a type (RFC 7950 7.6.3, 7.7.3)
  pub typed : EachNode tables (λ number node. IsTrue (has_value node.kind) →
      IsSome (slice_get tables.types node.kind_of_value))
  -- each type names types, data nodes and identities of the schema (RFC 7950 9)
  pub types : All (IsProperType tables) tables.types
  -- a leafref turns down at a node above the leaf or leaf-list (RFC 7950 9.9.2)
  pub leafrefs : EachNode tables (TurnsAbove tables)

-- a schema that modules define
pub record IsProperSchema (tables : Tables) : Type 0 where
  pub modules : AreModules tables
  pub places : AreInPlace tables
  pub types : AreTypesProper tables
  pub defaults : EachNode tables (λ number node. HasItsDefaults node)
