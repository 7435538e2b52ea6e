-- Filters with the rows that they keep: those of RFC 6241 6.4, and others worked by hand from its section 6.
use Rattle.std.proofs.Common.{◌≡◌, ℕ, List, [], ◌∷◌, ◌++◌, refl}
use Rattle.std.specs.Prelude.{codes, Option, Some, None, false}
use Rattle.nc_message.specs.declared.tree.Elem.{Elem}
use Rattle.nc_message.specs.declared.tree.Part.{Part}
use Rattle.nc_message.specs.declared.tree.Part.TheVariants.{Child, Chars}
use Rattle.nc_message.specs.declared.tree.Part.TheBlock.{hidden-the_row-Part-0, hidden-the_row-Elem-1}
use denote.Hole.Carrier.{hidden}
use Rattle.nc_names.specs.declared.path.Row.{Row}
use Rattle.nc_names.specs.declared.path.Step.{Step}
use Rattle.nc_schema.specs.declared.node.Deny.TheVariants.{Nothing as NotDenied}
use Rattle.nc_schema.specs.declared.node.Kind.{Kind}
use Rattle.nc_schema.specs.declared.node.Kind.TheVariants.{Container, Leaf, LeafList, List as ListKind}
use Rattle.nc_schema.specs.declared.node.Node.{Node}
use Rattle.nc_schema.specs.Tables.{Tables}
use Rattle.nc_protocol.specs.Filter.{selected}

abbrev node : (name : List ℕ) (parent : Option ℕ) (kind : Kind) (keys : List ℕ) → Node
node name parent kind keys = record {
  name = record { space = codes "urn:ex"; name = name };
  «module» = 0;
  parent = parent;
  kind = kind;
  kind_of_value = 0;
  keys = keys;
  uniques = [];
  mandatory = false;
  defaults = [];
  least = 0;
  most = None;
  by_user = false;
  cases = [];
  deny = NotDenied;
}

-- container top { container users {
--   list user { key name; leaf name; leaf type; leaf full-name; container company-info { leaf dept; leaf id; } leaf-list tag; } }
--   leaf host; leaf port; }
abbrev schema : Tables
schema = record {
  nodes = node (codes "top") None (Container false) [] ∷ node (codes "users") (Some 0) (Container false) []
      ∷ node (codes "user") (Some 1) ListKind (3 ∷ []) ∷ node (codes "name") (Some 2) Leaf [] ∷ node (codes "type") (Some 2) Leaf []
      ∷ node (codes "full-name") (Some 2) Leaf [] ∷ node (codes "company-info") (Some 2) (Container false) []
      ∷ node (codes "dept") (Some 6) Leaf [] ∷ node (codes "id") (Some 6) Leaf [] ∷ node (codes "tag") (Some 2) LeafList []
      ∷ node (codes "host") (Some 0) Leaf [] ∷ node (codes "port") (Some 0) Leaf [] ∷ [];
  choices = [];
  patterns = [];
  types = [];
  modules = [];
}

-- ---- rows
abbrev row : List Step → Option (List ℕ) → Row
row steps value = record { path = record { steps = steps }; value = value }

abbrev below : List Step → ℕ → List Step
below above number = above ++ record { node = number; keys = [] } ∷ []

abbrev top : List Step
top = below [] 0

abbrev user : List ℕ → List Step
user name = below top 1 ++ record { node = 2; keys = name ∷ [] } ∷ []

abbrev entry_row : List ℕ → Row
entry_row name = row (user name) None

abbrev name_row : List ℕ → Row
name_row name = row (below (user name) 3) (Some name)

abbrev type_row : List ℕ → List ℕ → Row
type_row name type = row (below (user name) 4) (Some type)

abbrev full_row : List ℕ → List ℕ → Row
full_row name full = row (below (user name) 5) (Some full)

abbrev dept_row : List ℕ → List ℕ → Row
dept_row name dept = row (below (below (user name) 6) 7) (Some dept)

abbrev id_row : List ℕ → List ℕ → Row
id_row name id = row (below (below (user name) 6) 8) (Some id)

abbrev tag_row : List ℕ → List ℕ → Row
tag_row name tag = row (user name ++ record { node = 9; keys = tag ∷ [] } ∷ []) (Some tag)

abbrev root_rows : List Row
root_rows =
    entry_row (codes "root") ∷ name_row (codes "root") ∷ type_row (codes "root") (codes "superuser")
    ∷ full_row (codes "root") (codes "Charlie Root") ∷ dept_row (codes "root") (codes "1") ∷ id_row (codes "root") (codes "1") ∷ []

abbrev fred_rows : List Row
fred_rows =
    entry_row (codes "fred") ∷ name_row (codes "fred") ∷ type_row (codes "fred") (codes "admin")
    ∷ full_row (codes "fred") (codes "Fred Flintstone") ∷ dept_row (codes "fred") (codes "2") ∷ id_row (codes "fred") (codes "2") ∷ []

abbrev barney_rows : List Row
barney_rows =
    entry_row (codes "barney") ∷ name_row (codes "barney") ∷ type_row (codes "barney") (codes "admin")
    ∷ full_row (codes "barney") (codes "Barney Rubble") ∷ dept_row (codes "barney") (codes "2") ∷ id_row (codes "barney") (codes "3") ∷ []

abbrev users_rows : List Row
users_rows = root_rows ++ fred_rows ++ barney_rows

-- ---- filters
abbrev element : List ℕ → List Part → Part
element name parts = Child (record { name = record { space = codes "urn:ex"; name = name }; bounds = []; attrs = []; parts = parts })

-- one without a namespace, and one with an attribute
abbrev bare : List ℕ → List Part → Part
bare name parts = Child (record { name = record { space = []; name = name }; bounds = []; attrs = []; parts = parts })

abbrev other : List ℕ → List Part → Part
other name parts = Child (record { name = record { space = codes "urn:other"; name = name }; bounds = []; attrs = []; parts = parts })

abbrev with_attribute : List ℕ → List Part → Part
with_attribute name parts =
    Child (record {
      name = record { space = codes "urn:ex"; name = name };
      bounds = [];
      attrs = record { name = record { space = []; name = codes "a" }; prefix = []; value = codes "b" } ∷ [];
      parts = parts;
    })

abbrev leaf : List ℕ → List ℕ → Part
leaf name text = element name (Chars text ∷ [])

abbrev filter_of : List Part → Elem
filter_of parts = record { name = record { space = []; name = codes "filter" }; bounds = []; attrs = []; parts = parts }

-- the rows that a filter of `users` keeps of those of the three users
abbrev of_users : List Part → List Row
of_users parts = selected schema (filter_of (element (codes "top") (element (codes "users") parts ∷ []) ∷ [])) users_rows

abbrev of_top : List Part → List Row → List Row
of_top parts rows = selected schema (filter_of (element (codes "top") parts ∷ [])) rows

-- ---- RFC 6241 6.4.2 to 6.4.7
empty_filter : selected schema (filter_of []) users_rows ≡ []
empty_filter = refl

whole_subtree : of_top (element (codes "users") [] ∷ []) (users_rows ++ row (below top 10) (Some (codes "x")) ∷ []) ≡ users_rows
unfolding hidden-the_row-Part-0 hidden-the_row-Elem-1 hidden
whole_subtree = refl

all_names : of_users (element (codes "user") (element (codes "name") [] ∷ []) ∷ [])
    ≡ entry_row (codes "root") ∷ name_row (codes "root") ∷ entry_row (codes "fred") ∷ name_row (codes "fred")
    ∷ entry_row (codes "barney") ∷ name_row (codes "barney") ∷ []
unfolding hidden-the_row-Part-0 hidden-the_row-Elem-1 hidden
all_names = refl

one_entry : of_users (element (codes "user") (leaf (codes "name") (codes "fred") ∷ []) ∷ []) ≡ fred_rows
unfolding hidden-the_row-Part-0 hidden-the_row-Elem-1 hidden
one_entry = refl

elements_of_one_entry : of_users (element (codes "user") (leaf (codes "name") (codes "fred") ∷ element (codes "type") [] ∷ element (codes "full-name") [] ∷ []) ∷ [])
    ≡ entry_row (codes "fred") ∷ name_row (codes "fred") ∷ type_row (codes "fred") (codes "admin") ∷ full_row (codes "fred") (codes "Fred Flintstone") ∷ []
unfolding hidden-the_row-Part-0 hidden-the_row-Elem-1 hidden
elements_of_one_entry = refl

-- several subtrees; no user barney is a superuser
several_subtrees : of_users (
    element (codes "user") (leaf (codes "name") (codes "root") ∷ element (codes "company-info") [] ∷ [])
    ∷ element (codes "user") (leaf (codes "name") (codes "fred") ∷ element (codes "company-info") (element (codes "id") [] ∷ []) ∷ [])
    ∷ element (codes "user") (leaf (codes "name") (codes "barney") ∷ leaf (codes "type") (codes "superuser") ∷ element (codes "company-info") (element (codes "dept") [] ∷ []) ∷ []) ∷ [])
    ≡ entry_row (codes "root") ∷ name_row (codes "root") ∷ dept_row (codes "root") (codes "1") ∷ id_row (codes "root") (codes "1")
    ∷ entry_row (codes "fred") ∷ name_row (codes "fred") ∷ id_row (codes "fred") (codes "2") ∷ []
unfolding hidden-the_row-Part-0 hidden-the_row-Elem-1 hidden
several_subtrees = refl

-- ---- RFC 6241 6.2.2 and 6.4.8: nothing has the attributes that an element names
attribute_of_selection : of_users (with_attribute (codes "user") [] ∷ []) ≡ []
unfolding hidden-the_row-Part-0 hidden-the_row-Elem-1 hidden
attribute_of_selection = refl

attribute_of_match : of_users (element (codes "user") (with_attribute (codes "name") (Chars (codes "fred") ∷ []) ∷ element (codes "type") [] ∷ []) ∷ []) ≡ []
unfolding hidden-the_row-Part-0 hidden-the_row-Elem-1 hidden
attribute_of_match = refl

-- it stands at its level, which then has more than content matches
attribute_beside_match : of_users (element (codes "user") (leaf (codes "name") (codes "fred") ∷ with_attribute (codes "type") [] ∷ []) ∷ [])
    ≡ entry_row (codes "fred") ∷ name_row (codes "fred") ∷ []
unfolding hidden-the_row-Part-0 hidden-the_row-Elem-1 hidden
attribute_beside_match = refl

-- ---- a content match and a selection node at one level
abbrev two_leafs : List Row
two_leafs = row (below top 10) (Some (codes "x")) ∷ row (below top 11) (Some (codes "a")) ∷ []

match_and_selection : of_top (leaf (codes "host") (codes " x\n") ∷ element (codes "port") [] ∷ []) two_leafs ≡ two_leafs
unfolding hidden-the_row-Part-0 hidden-the_row-Elem-1 hidden
match_and_selection = refl

match_without_leaf : of_top (leaf (codes "host") (codes "x") ∷ element (codes "port") [] ∷ []) (row (below top 11) (Some (codes "a")) ∷ []) ≡ []
unfolding hidden-the_row-Part-0 hidden-the_row-Elem-1 hidden
match_without_leaf = refl

matches_alone : of_top (leaf (codes "host") (codes "x") ∷ []) two_leafs ≡ two_leafs
unfolding hidden-the_row-Part-0 hidden-the_row-Elem-1 hidden
matches_alone = refl

-- ---- names (RFC 6241 6.2.1)
without_namespace : selected schema (filter_of (bare (codes "top") (bare (codes "port") [] ∷ []) ∷ [])) two_leafs ≡ row (below top 11) (Some (codes "a")) ∷ []
unfolding hidden-the_row-Part-0 hidden-the_row-Elem-1 hidden
without_namespace = refl

of_another_namespace : of_top (other (codes "port") [] ∷ []) two_leafs ≡ []
unfolding hidden-the_row-Part-0 hidden-the_row-Elem-1 hidden
of_another_namespace = refl

-- ---- containment nodes, leaf-lists
nothing_in_it : of_users (element (codes "user") (element (codes "tag") [] ∷ []) ∷ []) ≡ []
unfolding hidden-the_row-Part-0 hidden-the_row-Elem-1 hidden
nothing_in_it = refl

-- of a leaf-list the entry that matches
one_tag : of_top (element (codes "users") (element (codes "user") (leaf (codes "tag") (codes "p") ∷ element (codes "type") [] ∷ []) ∷ []) ∷ [])
    (fred_rows ++ tag_row (codes "fred") (codes "p") ∷ tag_row (codes "fred") (codes "q") ∷ barney_rows)
    ≡ entry_row (codes "fred") ∷ name_row (codes "fred") ∷ type_row (codes "fred") (codes "admin") ∷ tag_row (codes "fred") (codes "p") ∷ []
unfolding hidden-the_row-Part-0 hidden-the_row-Elem-1 hidden
one_tag = refl
