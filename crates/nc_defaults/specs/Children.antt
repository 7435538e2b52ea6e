-- The children of a data node: the data nodes that stand in it (RFC 7950 7.5, 7.8).
use Rattle.std.specs.Prelude.{ℕ, List, map, Option}
use Rattle.std.specs.List.{enumerate_from, filter}
use Rattle.nc_schema.specs.Children.{is_same_number}
use Rattle.nc_schema.specs.declared.node.Node.{Node}

-- the numbers of the children of a data node, or of the top, among data nodes from the number `number` on
abbrev pub children_among : Option ℕ → ℕ → List Node → List ℕ
children_among parent number nodes =
    map (λ one. one.0) (filter (λ one. is_same_number one.1.parent parent) (enumerate_from number nodes))

-- those among all data nodes
abbrev pub children_of : List Node → Option ℕ → List ℕ
children_of nodes parent = children_among parent 0 nodes
