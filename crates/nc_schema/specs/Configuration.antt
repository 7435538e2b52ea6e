-- What list of rows is a configuration (RFC 7950 7.5 to 7.9).
use Rattle.std.specs.Prelude.{◌≡◌, ◌≢◌, ℕ, List, [], ◌∷◌, ◌++◌, map, Option, Some, None, IsTrue, IsSome, IfSome, IsSomeAnd, slice_get}
use Rattle.std.specs.List.{All, AllPairs, Contains, zip}
use Rattle.nc_names.specs.declared.path.Step.{Step}
use Rattle.nc_names.specs.declared.path.Path.{Path}
use Rattle.nc_names.specs.declared.path.Row.{Row}
use Rattle.nc_schema.specs.declared.node.Kind.{Kind}
use Rattle.nc_schema.specs.declared.node.Kind.TheVariants.{Container, Leaf, LeafList, List as ListKind}
use Rattle.nc_schema.specs.declared.node.Node.{Node}
use Rattle.nc_schema.specs.Tables.{Tables}
use Rattle.nc_schema.specs.Values.{IsCanonical}
use Rattle.nc_schema.specs.Paths.{IsPathOf}
use Rattle.nc_schema.specs.Order.{IsBefore}

-- the last step to a row, with the steps before it, and its data node
pub record LeadsTo (tables : Tables) (above : List Step) (step : Step) (node : Node) (row : Row) : Type 0 where
  pub path : row.path.steps ≡ above ++ step ∷ []
  pub node_is : slice_get tables.nodes step.node ≡ Some node

-- the path is that of these steps, or one below it
abbrev pub IsAtOrBelow : List Step → Path → Type 0
IsAtOrBelow steps path = (rest : List Step) × (path.steps ≡ steps ++ rest)

-- what stands between two rows at or below a node is at or below it too
abbrev pub StandTogether : List Row → Type 0
StandTogether rows =
    (first between last : List Row) (row other : Row) (steps : List Step) →
    rows ≡ first ++ row ∷ between ++ other ∷ last →
    IsAtOrBelow steps row.path → IsAtOrBelow steps other.path → All (λ inner. IsAtOrBelow steps inner.path) between

-- the value of a row at a node of that kind: a leaf has one, a leaf-list entry the one in its path; a
-- list entry has none, nor has a container, and that has a row only with presence (RFC 7950 7.5.1)
abbrev pub IsRowValue : Kind → Step → Option (List ℕ) → Type 0
IsRowValue (Container presence) step value = IsTrue presence × (value ≡ None)
IsRowValue Leaf step value = IsSome value
IsRowValue LeafList step value = value ≡ slice_get step.keys 0
IsRowValue ListKind step value = value ≡ None

-- the row has a value where its data node's kind has one, and no other (RFC 7950 7.5 to 7.8)
abbrev pub HasItsValue : Tables → Row → Type 0
HasItsValue tables row =
    (above : List Step) (step : Step) (node : Node) → LeadsTo tables above step node row →
    IsRowValue node.kind step row.value

-- the value of a row, if it has one, is such at its node
abbrev pub HasValueThat : (ℕ → List ℕ → Type 0) → Tables → Row → Type 0
HasValueThat IsSuch tables row =
    (above : List Step) (step : Step) (node : Node) → LeadsTo tables above step node row →
    IfSome row.value (IsSuch step.node)

-- the value of a row is the canonical text of a value of its node's type (RFC 7950 9.1)
abbrev pub HasCanonicalValue : Tables → Row → Type 0
HasCanonicalValue tables row = HasValueThat (IsCanonical tables) tables row

-- the rows of the keys of a list entry (RFC 7950 7.8.2)
abbrev pub key_rows : List Step → List ℕ → List (List ℕ) → List Row
key_rows entry keys values =
    map (λ pair. record {
      path =
          record { steps = entry ++ record { node = pair.0; keys = [] } ∷ [] };
      value = Some pair.1;
    }) (zip keys values)

-- the row of a list entry is followed at once by those of its keys
abbrev pub KeysFollow : Tables → List Row → Type 0
KeysFollow tables rows =
    (before after : List Row) (row : Row) (above : List Step) (step : Step) (node : Node) →
    rows ≡ before ++ row ∷ after → LeadsTo tables above step node row → node.kind ≡ ListKind →
    (rest : List Row) × (after ≡ key_rows row.path.steps node.keys step.keys ++ rest)

-- a node of that kind has a row where it exists, without a value: a list entry, and a container with
-- presence
abbrev pub StandsForItself : Kind → Type 0
StandsForItself (Container presence) = IsTrue presence
StandsForItself Leaf = ⊥
StandsForItself LeafList = ⊥
StandsForItself ListKind = Unit {0}

-- each such node above a row, from the top one on, has its row before it
abbrev pub AncestorsStand : Tables → List Step → List Row → Type 0
AncestorsStand tables top rows =
    (before after : List Row) (row : Row) (above : List Step) (step next : Step) (rest : List Step) (node : Node) →
    rows ≡ before ++ row ∷ after → row.path.steps ≡ above ++ step ∷ next ∷ rest →
    IsAtOrBelow top (record { steps = above ++ step ∷ [] }) →
    slice_get tables.nodes step.node ≡ Some node → StandsForItself node.kind →
    Contains before (record { path = record { steps = above ++ step ∷ [] }; value = None })

-- the data node belongs to that case of that choice
abbrev pub IsInCase : Tables → ℕ → ℕ → ℕ → Type 0
IsInCase tables number choice case =
    IsSomeAnd (slice_get tables.nodes number) (λ node. Contains node.cases (record { choice = choice; case = case }))

-- of one choice in one place there are nodes of one case alone (RFC 7950 7.9)
abbrev pub StandsOneCase : Tables → List Row → Type 0
StandsOneCase tables rows =
    (row other : Row) (above rest others : List Step) (step beside : Step) (choice case another : ℕ) →
    Contains rows row → Contains rows other →
    row.path.steps ≡ above ++ step ∷ rest → other.path.steps ≡ above ++ beside ∷ others →
    IsInCase tables step.node choice case → IsInCase tables beside.node choice another → case ≡ another

-- the rows at and below a node, whatever stands above it
pub record IsSubtree (tables : Tables) (top : List Step) (rows : List Row) : Type 0 where
  pub below : All (λ row. IsAtOrBelow top row.path) rows
  pub paths : All (λ row. IsPathOf tables row.path) rows
  pub distinct : AllPairs (λ row later. row.path ≢ later.path) rows
  pub ordered : AllPairs (λ row later. ¬ IsBefore tables later.path row.path) rows
  pub together : StandTogether rows
  pub values : All (HasItsValue tables) rows
  pub keys : KeysFollow tables rows
  pub ancestors : AncestorsStand tables top rows
  pub cases : StandsOneCase tables rows

-- a data tree of the schema (RFC 7950 3), as the list of its rows: those below the root
abbrev pub IsDataTree : Tables → List Row → Type 0
IsDataTree tables rows = IsSubtree tables [] rows

-- a configuration: a data tree whose values are canonical
pub record IsConfiguration (tables : Tables) (rows : List Row) : Type 0 where
  pub tree : IsDataTree tables rows
  pub canonical : All (HasCanonicalValue tables) rows
