-- Kinds of data nodes (RFC 7950 7.5 to 7.8).
use Rattle.std.specs.Prelude.{Bool, true, false, not}
use Rattle.nc_schema.specs.declared.node.Kind.{Kind}
use Rattle.nc_schema.specs.declared.node.Kind.TheVariants.{Container, Leaf, LeafList, List as ListKind}

-- data nodes stand in containers and lists
abbrev pub holds_nodes : Kind → Bool
holds_nodes (Container presence) = true
holds_nodes ListKind = true
holds_nodes kind = false

-- a list (RFC 7950 7.8)
abbrev pub is_list : Kind → Bool
is_list ListKind = true
is_list kind = false

-- lists and leaf-lists have entries
abbrev pub has_entries : Kind → Bool
has_entries LeafList = true
has_entries ListKind = true
has_entries kind = false

-- leafs, and the entries of leaf-lists, have values
abbrev pub has_value : Kind → Bool
has_value (Container presence) = false
has_value Leaf = true
has_value LeafList = true
has_value ListKind = false

-- a container without presence, which exists only for what stands in it (RFC 7950 7.5.1)
abbrev pub is_plain_container : Kind → Bool
is_plain_container (Container presence) = not presence
is_plain_container kind = false

-- a leaf (RFC 7950 7.6)
abbrev pub is_leaf : Kind → Bool
is_leaf (Container presence) = false
is_leaf Leaf = true
is_leaf LeafList = false
is_leaf ListKind = false

-- a list entry, and a container with presence, has a row where it exists (RFC 7950 7.5.1, 7.8)
abbrev pub stands_for_itself : Kind → Bool
stands_for_itself (Container presence) = presence
stands_for_itself Leaf = false
stands_for_itself LeafList = false
stands_for_itself ListKind = true
