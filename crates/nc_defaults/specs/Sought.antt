-- Which places a walk looks for: those of some data nodes alone.
use Rattle.std.specs.Prelude.{◌≡◌, ◌+◌, ℕ, Bool, true, false, List, Option, None, Some, IfSome, slice_get, unwrap_or}
use Rattle.std.specs.List.{filter}
use Rattle.nc_schema.specs.Places.{Place, node_there}
use Rattle.nc_schema.specs.declared.node.Node.{Node}

-- whether it looks for the instances of a data node: it has a mark for the top, then one for each data node. Without a
-- mark it does
abbrev pub is_sought : List Bool → Option ℕ → Bool
is_sought marks None = unwrap_or (slice_get marks 0) true
is_sought marks (Some number) = unwrap_or (slice_get marks (number + 1)) true

-- a data node is not sought in one that is not
abbrev pub AreUpward : List Node → List Bool → Type 0
AreUpward nodes marks =
    (number : ℕ) → IfSome (slice_get nodes number) (λ node. is_sought marks node.parent ≡ false →
    is_sought marks (Some number) ≡ false)

-- those of some places
abbrev pub sought : List Bool → List Place → List Place
sought marks places = filter (λ place. is_sought marks (node_there place)) places
