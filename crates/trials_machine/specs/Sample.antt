-- The schema of the tests: a leaf, a leaf-list of at most two entries, and a list with a key and a leaf.
use Rattle.std.specs.Prelude.{codes, ℕ, pos, ◌^◌, ◌-◌, List, [], ◌∷◌, Option, Some, None, false}
use Rattle.nc_names.specs.declared.name.Module.{Module}
use Rattle.nc_schema.specs.declared.node.Deny.TheVariants.{Nothing as NotDenied}
use Rattle.nc_schema.specs.declared.node.Kind.{Kind}
use Rattle.nc_schema.specs.declared.node.Kind.TheVariants.{Leaf, LeafList, List as ListKind}
use Rattle.nc_schema.specs.declared.node.Node.{Node}
use Rattle.nc_schema.specs.declared.value_type.ValueType.{ValueType}
use Rattle.nc_schema.specs.declared.value_type.ValueType.TheVariants.{Chars}
use Rattle.nc_schema.specs.Tables.{Tables}

-- a data node of the tests' module, of strings where it has values, neither mandatory nor with defaults
abbrev pub node : List ℕ → Option ℕ → Kind → List ℕ → Option ℕ → Node
node name parent kind keys most = record {
  name = record { space = codes "urn:ex"; name = name };
  «module» = 0;
  parent = parent;
  kind = kind;
  kind_of_value = 0;
  keys = keys;
  uniques = [];
  mandatory = false;
  defaults = [];
  least = 0;
  most = most;
  by_user = false;
  cases = [];
  deny = NotDenied;
}

-- leaf host, at the top
unfoldable pub host : Node
host = node (codes "host") None Leaf [] None

-- leaf-list tag, at the top, of at most two entries
unfoldable pub tag : Node
tag = node (codes "tag") None LeafList [] (Some 2)

-- list port, at the top, with node 3 as its key
unfoldable pub port : Node
port = node (codes "port") None ListKind (3 ∷ []) None

-- leaf name in the list, its key
unfoldable pub name : Node
name = node (codes "name") (Some 2) Leaf [] None

-- leaf speed in the list
unfoldable pub speed : Node
speed = node (codes "speed") (Some 2) Leaf [] None

-- strings of any length
abbrev pub chars : ValueType
chars = Chars (record { least = pos 0; most = pos (2 ^ 64 - 1) } ∷ []) false []

-- the module that defines them
abbrev pub ex : Module
ex = record { name = codes "ex"; space = codes "urn:ex"; revision = []; features = [] }

-- a schema of nothing
abbrev pub empty : Tables
empty = record { nodes = []; choices = []; types = []; modules = []; patterns = [] }

-- without a data node
abbrev pub begun : Tables
begun = record empty { types = chars ∷ []; modules = ex ∷ [] }

-- with the nodes at the top
abbrev pub topped : Tables
topped = record begun { nodes = host ∷ tag ∷ port ∷ [] }

-- leaf host; leaf-list tag { max-elements 2 }; list port { key name; leaf name; leaf speed }, all of them strings
unfoldable pub sample : Tables
sample = record begun { nodes = host ∷ tag ∷ port ∷ name ∷ speed ∷ [] }
