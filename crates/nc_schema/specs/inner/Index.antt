-- An index of data nodes by their parents and names.
use Rattle.std.specs.Prelude.{◌≡◌, ℕ, Bool, false, List, Option, Some, None, cond, length, slice_get, option_and_then}
use Rattle.std.specs.BTreeMap.{BTreeMap, get}
use Rattle.std.specs.declared.cmp.Ordering.{Ordering}
use Rattle.nc_names.specs.contracts.name.QNameOrd.TheImpl.{ghosts}
use Rattle.nc_names.specs.declared.name.QName.{QName}
use Rattle.nc_names.specs.Same.{is_same_name}
use Rattle.nc_schema.specs.declared.index.Index.{Index}
use Rattle.nc_schema.specs.declared.node.Node.{Node}
use Rattle.nc_schema.specs.Children.{IsChild, IsFirstChild, IsListOfNodes}

-- the nodes of one parent by their names
abbrev pub Names : Type 0
Names = BTreeMap QName ℕ

-- names are ordered by their namespaces, then by their local names
abbrev pub order : QName → QName → Ordering
order name other = ghosts.cmp name other

-- the number that a name has
abbrev pub number_of : Names → QName → Option ℕ
number_of names name = get order names name

-- the number that a name has once a node of some name has got it, where no earlier node has that name
abbrev pub with_entry : Option ℕ → Bool → ℕ → Option ℕ
with_entry (Some number) is_its_name added = Some number
with_entry None is_its_name added = cond is_its_name (Some added) None

-- the name has got the number unless it had one
abbrev pub HasEntry : Names → Names → QName → ℕ → Type 0
HasEntry old new name added =
    (other : QName) → number_of new other ≡ with_entry (number_of old other) (is_same_name name other) added

-- the number by which the index knows a child
abbrev pub known_child : Index → Option ℕ → QName → Option ℕ
known_child index None name = number_of index.top name
known_child index (Some above) name =
    option_and_then (λ names. number_of names name) (slice_get index.below.items above)

-- the index has the first child of each name in each parent, and no other
pub record IsIndexOf (nodes : List Node) (index : Index) : Type 0 where
  pub many : length index.below.items ≡ length nodes
  pub exact : (parent : Option ℕ) (name : QName) → IsFirstChild nodes parent name (known_child index parent name)

-- the list of a schema's nodes with their index, which is of these nodes unless it is stale
pub record IsIndexed (nodes : List Node) (index : Index) (stale : Bool) : Type 0 where
  pub list : IsListOfNodes nodes
  pub fresh : stale ≡ false → IsIndexOf nodes index

-- the node has the name and the parent of the one in that place
abbrev pub KeepsName : List Node → ℕ → Node → Type 0
KeepsName nodes number node = (old : Node) × (slice_get nodes number ≡ Some old) × IsChild old.parent old.name node
