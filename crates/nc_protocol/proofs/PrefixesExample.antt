-- The module names that are prefixes in path texts: those of steps and keys, and of values by their types alone.
use Rattle.std.proofs.Common.{◌≡◌, ℕ, List, [], ◌∷◌, refl}
use Rattle.std.specs.Prelude.{codes, map, false, Some, None}
use Rattle.nc_names.specs.declared.name.Bound.{Bound}
use Rattle.nc_names.specs.declared.path.Path.{Path}
use Rattle.nc_schema.specs.Tables.{Tables}
use Rattle.nc_schema.specs.declared.node.Kind.{Kind}
use Rattle.nc_schema.specs.declared.node.Kind.TheVariants.{Container, Leaf, LeafList, List as ListKind}
use Rattle.nc_schema.specs.declared.node.Node.{Node}
use Rattle.nc_schema.specs.declared.value_type.ValueType.TheVariants.{Enumeration, Identity, Instance, Union}
use Rattle.nc_protocol.proofs.Example.{node}
use Rattle.nc_protocol.specs.ModuleNames.{path_bounds}

abbrev bound : List ℕ → List ℕ → Bound
bound name space = record { prefix = name; space = space }

abbrev ex : Bound
ex = bound (codes "ex") (codes "urn:ex")

abbrev oc : Bound
oc = bound (codes "oc") (codes "urn:oc")

abbrev x : Bound
x = bound (codes "x") (codes "urn:x")

abbrev typed : List ℕ → ℕ → Kind → ℕ → Node
typed name parent kind type = record (node name (Some parent) kind []) { kind_of_value = type }

-- container top {
--   list link { key "kind name"; leaf kind (an identity); leaf name (an enumeration); }
--   leaf-list tag (an enumeration); leaf-list at (an instance-identifier); leaf-list either (a union with an identity); }
abbrev tables : Tables
tables = record {
  nodes = node (codes "top") None (Container false) [] ∷ node (codes "link") (Some 0) ListKind (2 ∷ 3 ∷ [])
      ∷ typed (codes "kind") 1 Leaf 1 ∷ typed (codes "name") 1 Leaf 0 ∷ typed (codes "tag") 0 LeafList 0
      ∷ typed (codes "at") 0 LeafList 2 ∷ typed (codes "either") 0 LeafList 3 ∷ [];
  choices = [];
  patterns = [];
  types = Enumeration (codes "x:a" ∷ []) ∷ Identity (record { space = codes "urn:oc"; name = codes "k" } ∷ []) ∷ Instance false
      ∷ Union (0 ∷ 1 ∷ []) ∷ [];
  modules = map (λ found. record { name = found.prefix; space = found.space; revision = []; features = [] }) (ex ∷ oc ∷ x ∷ []);
}

abbrev below : ℕ → List (List ℕ) → Path
below number keys = record { steps = record { node = 0; keys = [] } ∷ record { node = number; keys = keys } ∷ [] }

-- `x:a` is the name of an enum at `name` and `tag`, and no module's name
prefixes_are_bound :
    map (path_bounds tables)
    (below 1 (codes "oc:k" ∷ codes "x:a" ∷ []) ∷ below 4 (codes "x:a" ∷ []) ∷ below 5 (codes "/x:a/oc:b" ∷ [])
    ∷ below 6 (codes "oc:k" ∷ []) ∷ record { steps = [] } ∷ [])
    ≡ (ex ∷ oc ∷ []) ∷ (ex ∷ []) ∷ (ex ∷ x ∷ oc ∷ []) ∷ (ex ∷ oc ∷ []) ∷ [] ∷ []
unfolding node
prefixes_are_bound = refl
