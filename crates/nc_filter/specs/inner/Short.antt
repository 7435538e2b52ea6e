-- Elements that have the names of the same data nodes, where no namespace of one has more than so many octets
-- (RFC 6241 6.2.1).
use Rattle.std.specs.Prelude.{◌≡◌, ◌≤◌, ℕ, Bool, List, [], ◌∷◌, IfSome, length, ltb, slice_get}
use Rattle.nc_message.specs.declared.tree.Elem.{Elem}
use Rattle.nc_message.specs.declared.tree.Part.{Part}
use Rattle.nc_message.specs.declared.tree.Part.TheVariants.{Child}
use Rattle.nc_schema.specs.Tables.{Tables}
use Rattle.nc_schema.specs.declared.node.Node.{Node}
use Rattle.nc_protocol.specs.Filter.{is_of_name}

-- the namespace of each data node has at most so many octets
abbrev pub AreWithin : Tables → ℕ → Type 0
AreWithin tables most = (number : ℕ) → IfSome (slice_get tables.nodes number) (λ node. length node.name.space ≤ most)

-- that of an element has more
abbrev pub is_long : ℕ → Elem → Bool
is_long most elem = ltb most (length elem.name.space)

-- two elements have the names of the same data nodes, among those whose namespace has at most so many octets
abbrev pub NameSame : ℕ → Elem → Elem → Type 0
NameSame most elem other = (node : Node) → length node.name.space ≤ most → is_of_name elem node ≡ is_of_name other node

-- two contents are the same, but for the names of the elements, which are those of the same data nodes
pub data AreAlike (most : ℕ) : List Part → List Part → Type 0 where
  none : AreAlike most [] []
  same : (part : Part) {parts others : List Part} → AreAlike most parts others
      → AreAlike most (part ∷ parts) (part ∷ others)
  child : (part other : Part) (elem like : Elem) {parts others : List Part} → part ≡ Child elem → other ≡ Child like
      → NameSame most elem like → AreAlike most elem.parts like.parts → AreAlike most parts others
      → AreAlike most (part ∷ parts) (other ∷ others)
