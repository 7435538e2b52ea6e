-- What follows from the definitions.
use Rattle.std.specs.Prelude.{◌≡◌, ◌≤◌, ◌^◌, ◌⊎◌, ◌↔◌, ℕ, List, [], length, false}
use Rattle.std.specs.List.{All, AllPairs, Contains}
use Rattle.nc_names.specs.declared.path.Path.{Path}
use Rattle.nc_names.specs.declared.path.Row.{Row}
use Rattle.nc_schema.specs.Configuration.{IsDataTree}
use Rattle.nc_schema.specs.Tables.{Tables}
use Rattle.nc_schema.specs.Proper.{IsProperSchema}
use Rattle.nc_schema.specs.PathTexts.{HasQuotableKeys}
use Rattle.nc_schema.specs.Violations.{IsValid}
use Rattle.nc_schema.specs.Paths.{NamesNodeOf}
use Rattle.nc_schema.specs.PathTexts.{path_text_of}
use Rattle.nc_schema.specs.Order.{IsSystemOrdered, IsBefore}
use Rattle.nc_schema.specs.Record.{SpellsRecord, record_body, record_size}
use Rattle.nc_names.specs.Limits.{body_limit}

-- no path is before itself, and what is before a path is before all that the path is before
pub record OrderIsStrict : Type 0 where
  pub irreflexive : (tables : Tables) (path : Path) → ¬ IsBefore tables path path
  pub transitive : (tables : Tables) (path middle other : Path) → IsBefore tables path middle →
      IsBefore tables middle other → IsBefore tables path other

-- the system orders each node on the path
abbrev pub IsSystemOrderedPath : Tables → Path → Type 0
IsSystemOrderedPath tables path = All (λ step. IsSystemOrdered tables step.node) path.steps

-- of two paths on which the system orders each node, one is before the other, or they are one
abbrev pub OrderIsTotal : Type 0
OrderIsTotal =
    (tables : Tables) (path other : Path) → IsSystemOrderedPath tables path →
    IsBefore tables path other ⊎ (path ≡ other) ⊎ IsBefore tables other path

-- a path text names one path
abbrev pub TextNamesOnePath : Type 0
TextNamesOnePath =
    (tables : Tables) (path other : Path) → IsProperSchema tables →
    NamesNodeOf tables path → NamesNodeOf tables other → HasQuotableKeys path → HasQuotableKeys other →
    path_text_of tables path ≡ path_text_of tables other → path ≡ other

-- without a row there is a data tree
abbrev pub EmptyIsDataTree : Type 0
EmptyIsDataTree = (tables : Tables) → IsDataTree tables []

-- where the system orders every node, each row of a data tree is before all later ones
abbrev pub RowsRise : Type 0
RowsRise =
    (tables : Tables) (rows : List Row) → IsDataTree tables rows →
    All (λ row. IsSystemOrderedPath tables row.path) rows →
    AllPairs (λ row later. IsBefore tables row.path later.path) rows

-- so there is one list of the same rows
abbrev pub RowsAreOneList : Type 0
RowsAreOneList =
    (tables : Tables) (rows others : List Row) → IsDataTree tables rows → IsDataTree tables others →
    All (λ row. IsSystemOrderedPath tables row.path) rows → All (λ row. IsSystemOrderedPath tables row.path) others →
    ((row : Row) → Contains rows row ↔ Contains others row) → rows ≡ others

-- nothing has to stand in the schema (RFC 7950 7.6.5, 7.7.5, 7.9.4)
pub record RequiresNothing (tables : Tables) : Type 0 where
  pub nodes : All (λ node. (node.mandatory ≡ false) × (node.least ≡ 0)) tables.nodes
  pub choices : All (λ choice. choice.mandatory ≡ false) tables.choices

-- then a configuration without rows is valid
abbrev pub EmptyIsValid : Type 0
EmptyIsValid = (tables : Tables) → RequiresNothing tables → IsValid tables []

-- the size of a record is the length of its body
abbrev pub SizeIsLength : Type 0
SizeIsLength = (rows : List Row) → record_size rows ≡ length (record_body rows)

-- a body within the limit spells one configuration of a schema whose data nodes have numbers of four bytes
abbrev pub BodySpellsOne : Type 0
BodySpellsOne =
    (tables : Tables) (body : List ℕ) (rows others : List Row) → IsProperSchema tables →
    length tables.nodes ≤ 2 ^ 32 → length body ≤ body_limit →
    SpellsRecord tables body rows → SpellsRecord tables body others → rows ≡ others
