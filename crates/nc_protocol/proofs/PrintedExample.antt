-- A configuration with two lists and a leaf-list as elements, and as it is written.
use Rattle.std.proofs.Common.{◌≡◌, ℕ, List, [], ◌∷◌, ◌++◌, refl}
use Rattle.std.specs.Prelude.{codes, false, Option, Some, None}
use Rattle.nc_message.specs.Marks.{ampersand, less_than, greater_than, quotation_mark, carriage_return, tab, line_feed, default_namespace, prefixed_namespace, value_start, empty_end, end_tag, xml_prefix}
use Rattle.nc_message.specs.Written.{written}
use Rattle.nc_message.specs.declared.tree.Part.TheBlock.{hidden-the_row-Part-0, hidden-the_row-Elem-1}
use Rattle.nc_message.specs.declared.tree.Tree.{Tree}
use denote.Hole.Carrier.{hidden}
use Rattle.nc_names.specs.declared.path.Row.{Row}
use Rattle.nc_names.specs.declared.path.Step.{Step}
use Rattle.nc_schema.specs.Tables.{Tables}
use Rattle.nc_schema.specs.declared.node.Kind.TheVariants.{Container, Leaf, LeafList, List as ListKind}
use Rattle.nc_schema.specs.declared.node.Node.{Node}
use Rattle.nc_protocol.proofs.Example.{node}
use Rattle.nc_schema.specs.declared.value_type.ValueType.TheVariants.{Boolean, Identity, Union}
use Rattle.nc_protocol.specs.Printed.{printed}

-- container top {
--   list port { key id; leaf id; } leaf-list tag;
--   list host { key name; leaf name; container sub { leaf kind (an identity, by a union); leaf note; } } }
abbrev kind_node : Node
kind_node = record (node (codes "kind") (Some 6) Leaf []) { kind_of_value = 1 }

abbrev schema : Tables
schema = record {
  nodes = node (codes "top") None (Container false) [] ∷ node (codes "port") (Some 0) ListKind (2 ∷ [])
      ∷ node (codes "id") (Some 1) Leaf [] ∷ node (codes "tag") (Some 0) LeafList [] ∷ node (codes "host") (Some 0) ListKind (5 ∷ [])
      ∷ node (codes "name") (Some 4) Leaf [] ∷ node (codes "sub") (Some 4) (Container false) [] ∷ kind_node ∷ node (codes "note") (Some 6) Leaf [] ∷ [];
  choices = [];
  patterns = [];
  types = Boolean ∷ Union (0 ∷ 2 ∷ []) ∷ Identity (record { space = codes "urn:ex"; name = codes "k" } ∷ []) ∷ [];
  modules = record { name = codes "ex"; space = codes "urn:ex"; revision = []; features = [] } ∷ [];
}

abbrev step : ℕ → List (List ℕ) → Step
step number keys = record { node = number; keys = keys }

abbrev row : List Step → Option (List ℕ) → Row
row below value = record { path = record { steps = step 0 [] ∷ below }; value = value }

abbrev port : List ℕ → List Row
port key = row (step 1 (key ∷ []) ∷ []) None ∷ row (step 1 (key ∷ []) ∷ step 2 [] ∷ []) (Some key) ∷ []

abbrev tag : List ℕ → Row
tag value = row (step 3 (value ∷ []) ∷ []) (Some value)

abbrev in_host : List Step → Option (List ℕ) → Row
in_host below value = row (step 4 (codes "h" ∷ []) ∷ below) value

abbrev rows : List Row
rows =
    port (codes "a") ++ port (codes "b") ++ tag (codes "x") ∷ tag (codes "<") ∷ in_host [] None
    ∷ in_host (step 5 [] ∷ []) (Some (codes "h")) ∷ in_host (step 6 [] ∷ step 7 [] ∷ []) (Some (codes "ex:k"))
    ∷ in_host (step 6 [] ∷ step 8 [] ∷ []) (Some []) ∷ []

abbrev whole : Tree
whole = record { root = record { name = record { space = []; name = codes "data" }; bounds = []; attrs = []; parts = printed schema rows } }

-- a container is one element for all its rows, an empty value is an empty element, and the prefix in the identity is bound
rows_are_printed :
    written whole
    ≡ codes "<data><top xmlns=\"urn:ex\"><port><id>a</id></port><port><id>b</id></port>"
    ++ codes "<tag>x</tag><tag>&lt;</tag>"
    ++ codes "<host><name>h</name><sub><kind xmlns:ex=\"urn:ex\">ex:k</kind><note/></sub></host></top></data>"
unfolding node ampersand less_than greater_than quotation_mark carriage_return tab line_feed default_namespace prefixed_namespace value_start empty_end end_tag xml_prefix hidden-the_row-Part-0 hidden-the_row-Elem-1 hidden
rows_are_printed = refl

nothing_is_printed : printed schema [] ≡ []
nothing_is_printed = refl
