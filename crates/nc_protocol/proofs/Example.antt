-- A list entry is merged into an empty configuration, and then one that comes before it.
use Rattle.std.proofs.Common.{◌≡◌, ℕ, List, [], ◌∷◌, refl}
use Rattle.std.specs.Prelude.{codes, Option, Some, None, false, true}
use Rattle.nc_message.specs.declared.tree.Elem.{Elem}
use Rattle.nc_message.specs.declared.tree.Part.{Part}
use Rattle.nc_names.specs.declared.path.Path.{Path}
use Rattle.nc_names.specs.declared.path.Place.TheVariants.{Kept}
use Rattle.nc_names.specs.declared.path.Right.{Right}
use Rattle.nc_names.specs.declared.path.Row.{Row}
use Rattle.nc_schema.specs.declared.node.Deny.TheVariants.{Nothing as NotDenied}
use Rattle.nc_schema.specs.declared.node.Kind.{Kind}
use Rattle.nc_schema.specs.declared.node.Kind.TheVariants.{Container, Leaf, List as ListKind}
use Rattle.nc_schema.specs.declared.node.Node.{Node}
use Rattle.nc_schema.specs.Tables.{Tables}
use Rattle.nc_schema.specs.declared.value_type.ValueType.TheVariants.{Enumeration}
use Rattle.nc_protocol.specs.declared.access.By.TheVariants.{Recovery}
use Rattle.nc_protocol.specs.declared.access.Decision.{Decision}
use Rattle.nc_protocol.specs.declared.asked.ErrorOption.TheVariants.{Stop}
use Rattle.nc_protocol.specs.declared.edit.Action.TheVariants.{Merge}
use Rattle.nc_protocol.specs.declared.edit.Edit.{Edit}
use Rattle.nc_protocol.specs.Applied.{applied}

unfoldable pub node : (name : List ℕ) (parent : Option ℕ) (kind : Kind) (keys : List ℕ) → Node
node name parent kind keys = record {
  name = record { space = codes "urn:ex"; name = name };
  «module» = 0;
  parent = parent;
  kind = kind;
  kind_of_value = 0;
  keys = keys;
  uniques = [];
  mandatory = false;
  defaults = [];
  least = 0;
  most = None;
  by_user = false;
  cases = [];
  deny = NotDenied;
}

-- container top { list port { key name; leaf name { type enumeration { enum a; enum b } } } }
unfoldable pub tables : Tables
tables = record {
  nodes = node (codes "top") None (Container false) [] ∷ node (codes "port") (Some 0) ListKind (2 ∷ []) ∷ node (codes "name") (Some 1) Leaf [] ∷ [];
  choices = [];
  patterns = [];
  types = Enumeration (codes "a" ∷ codes "b" ∷ []) ∷ [];
  modules = record { name = codes "ex"; space = codes "urn:ex"; revision = []; features = [] } ∷ [];
}

top : Path
top = record { steps = record { node = 0; keys = [] } ∷ [] }

unfoldable pub port : List ℕ → Path
port key = record { steps = record { node = 0; keys = [] } ∷ record { node = 1; keys = key ∷ [] } ∷ [] }

unfoldable pub name : List ℕ → Path
name key = record { steps = record { node = 0; keys = [] } ∷ record { node = 1; keys = key ∷ [] } ∷ record { node = 2; keys = [] } ∷ [] }

merge : Path → Option (List ℕ) → Edit
merge path value = record { path = path; action = Merge value; place = Kept }

everything : Path → Right → Decision
everything path right = record { permit = true; by = Recovery }

unfoldable pub rows_of_port : List ℕ → List Row
rows_of_port key = record { path = port key; value = None } ∷ record { path = name key; value = Some key } ∷ []

one_port_is_merged :
    applied tables everything Stop [] (merge top None ∷ merge (port (codes "b")) None ∷ merge (name (codes "b")) (Some (codes "b")) ∷ [])
    ≡ record { rows = rows_of_port (codes "b"); causes = [] }
unfolding node tables top port name merge everything rows_of_port
one_port_is_merged = refl

another_port_is_merged :
    applied tables everything Stop (rows_of_port (codes "b")) (merge top None ∷ merge (port (codes "a")) None ∷ merge (name (codes "a")) (Some (codes "a")) ∷ [])
    ≡ record {
      rows = record { path = port (codes "a"); value = None } ∷ record { path = name (codes "a"); value = Some (codes "a") } ∷ rows_of_port (codes "b");
      causes = [];
    }
unfolding node tables top port name merge everything rows_of_port
another_port_is_merged = refl

unfoldable pub element : List ℕ → List Part → Elem
element name parts = record { name = record { space = codes "urn:ex"; name = name }; bounds = []; attrs = []; parts = parts }
