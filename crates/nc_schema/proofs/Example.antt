-- A schema for examples: the data nodes of
--     container top { leaf host; list port { key "name"; leaf name; leaf tag; } leaf-list tags; leaf up; }
-- of the module `ex` with the namespace `urn:ex`, and one leaf for each type below.
use Rattle.std.proofs.Common.{ℕ, ◌-◌, ◌^◌, false, List, [], ◌∷◌, map}
use Rattle.std.specs.Prelude.{codes, Option, Some, None, pos, negsuc}
use Rattle.nc_names.specs.declared.name.Bound.{Bound}
use Rattle.nc_names.specs.declared.name.QName.{QName}
use Rattle.nc_schema.specs.Tables.{Tables}
use Rattle.nc_schema.specs.declared.node.Deny.TheVariants.{Nothing}
use Rattle.nc_schema.specs.declared.node.Kind.{Kind}
use Rattle.nc_schema.specs.declared.node.Kind.TheVariants.{Container, Leaf, LeafList, List as ListKind}
use Rattle.nc_schema.specs.declared.node.Node.{Node}
use Rattle.nc_schema.specs.declared.value_type.Between.{Between}
use Rattle.nc_schema.specs.declared.value_type.ValueType.{ValueType}
use Rattle.nc_schema.specs.declared.value_type.ValueType.TheVariants.{Whole, Decimal, Chars, Boolean, Enumeration, Bits, Binary, Empty, Union, Identity, Leafref, Instance, NodeInstance}

abbrev pub ex : List ℕ → QName
ex name = record { space = codes "urn:ex"; name = name }

abbrev pub node : List ℕ → Option ℕ → Kind → ℕ → List ℕ → Node
node name parent kind type keys = record {
  name = ex name;
  «module» = 0;
  parent = parent;
  kind = kind;
  kind_of_value = type;
  keys = keys;
  uniques = [];
  mandatory = false;
  defaults = [];
  least = 0;
  most = None;
  by_user = false;
  cases = [];
  deny = Nothing;
}

abbrev pub any_length : List Between
any_length = record { least = pos 0; most = pos (2 ^ 64 - 1) } ∷ []

abbrev pub octet : List Between
octet = record { least = negsuc 127; most = pos 127 } ∷ []

abbrev pub types : List ValueType
types =
    Chars any_length false []
    ∷ Whole (record { least = pos 0; most = pos 65535 } ∷ [])
    ∷ Leafref 3 (Some 0) false
    ∷ Whole octet
    ∷ Decimal 2 octet
    ∷ Boolean
    ∷ Enumeration (codes "one" ∷ codes "oneself" ∷ [])
    ∷ Bits (codes "a" ∷ codes "b" ∷ codes "c" ∷ [])
    ∷ Binary (record { least = pos 0; most = pos 2 } ∷ [])
    ∷ Empty
    ∷ Union (3 ∷ 0 ∷ [])
    ∷ Identity (ex (codes "des") ∷ [])
    ∷ Instance false
    ∷ NodeInstance
    ∷ Union (15 ∷ 14 ∷ 5 ∷ [])
    ∷ []

abbrev pub leaf : ℕ → Node
leaf type = node (codes "leaf") None Leaf type []

-- 0 top, 1 host, 2 port, 3 name, 4 tag, 5 up, 6 tags; then a leaf for each type from 3 on, of which each
-- has a number higher by 4
abbrev pub example : Tables
example = record {
  nodes =
      node (codes "top") None (Container false) 0 []
      ∷ node (codes "host") (Some 0) Leaf 0 []
      ∷ node (codes "port") (Some 0) ListKind 0 (3 ∷ [])
      ∷ node (codes "name") (Some 2) Leaf 0 []
      ∷ node (codes "tag") (Some 2) Leaf 1 []
      ∷ node (codes "up") (Some 0) Leaf 2 []
      ∷ node (codes "tags") (Some 0) LeafList 0 []
      ∷ map leaf (3 ∷ 4 ∷ 5 ∷ 6 ∷ 7 ∷ 8 ∷ 9 ∷ 10 ∷ 11 ∷ 12 ∷ 13 ∷ 14 ∷ []);
  choices = [];
  types = types;
  modules = record { name = codes "ex"; space = codes "urn:ex"; revision = []; features = [] } ∷ [];
  patterns = [];
}

-- the prefix `e` stands for the namespace of the module, and it is the default namespace
abbrev pub bindings : List Bound
bindings = record { prefix = codes "e"; space = codes "urn:ex" } ∷ record { prefix = []; space = codes "urn:ex" } ∷ []
