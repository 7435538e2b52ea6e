-- What is printed for a data node, as it is read.
use Rattle.std.proofs.Common.{◌≡◌, ◌<◌, ◌&&◌, ◌++◌, ◌∙◌, ℕ, Bool, true, false, List, [], ◌∷◌, Some, None, length, get_or, refl, sym, ap, subst, arith}
use Rattle.std.specs.Prelude.{Result, Ok, slice_get, option_and_then, option_map}
use Rattle.std.proofs.lemmas.List.{append-nil, get_or-take, length-take-le}
use Rattle.std.proofs.lemmas.Option.{slice_get-get_or, slice_get_within}
use Rattle.nc_names.specs.declared.name.Bound.{Bound}
use Rattle.nc_names.specs.declared.path.Step.{Step}
use Rattle.nc_message.specs.declared.tree.Elem.{Elem}
use Rattle.nc_message.specs.declared.tree.Part.{Part}
use Rattle.nc_schema.proofs.ChildLemmas.{child_is}
use Rattle.nc_schema.specs.Children.{IsChild, child_number}
use Rattle.nc_schema.specs.Proper.{IsProperSchema}
use Rattle.nc_schema.specs.Tables.{Tables}
use Rattle.nc_schema.specs.declared.node.Node.{Node}
use Rattle.nc_protocol.proofs.ContentLemmas.{elem_of_child}
use Rattle.nc_protocol.proofs.PayloadLemmas.{child_is_element}
use Rattle.nc_protocol.specs.declared.edit.Edit.{Edit}
use Rattle.nc_protocol.specs.declared.position.Position.{Position}
use Rattle.nc_protocol.specs.declared.request.Cause.{Cause}
use Rattle.nc_schema.specs.declared.node.Kind.TheVariants.{Container, Leaf, LeafList}
use Rattle.nc_protocol.specs.Content.{text_parts}
use Rattle.nc_protocol.specs.Elements.{Reading, Named, named, has_child, has_text, whole_text}
use Rattle.nc_protocol.specs.Payload.{element_edits, if_read, list_edits, part_edits}
use Rattle.nc_protocol.specs.Printed.{node_part}
use Rattle.nc_protocol.specs.ModuleNames.{value_bounds}
use Rattle.nc_print.specs.Laws.{PrintedIsNamed, PrintedValueIsRead, LeafIsReadBack, LeafListIsReadBack, ContainerIsReadBack, StandsFree, inline_at, merge_at, printed_elem}

-- a data node is the first of its name in its parent, since it is the only one
pub child_of_its_name : (tables : Tables) (number : ℕ) (node : Node) → IsProperSchema tables → slice_get tables.nodes number ≡ Some node →
    child_number tables node.parent node.name ≡ Some number
child_of_its_name tables number node proper at =
    let within : number < length tables.nodes = slice_get_within tables.nodes number node at in
    sym (child_is tables node.parent node.name (Some number) (
      (node, at, (refl, refl)),
      λ k x below child.
          let small : k < number = omega (arith, below, length-take-le number tables.nodes (omega (arith, within))) in
          let beside : Node = get_or tables.nodes k x in
          let is_there : slice_get tables.nodes k ≡ Some beside = slice_get-get_or tables.nodes k x (omega (arith, small, within)) in
          let is : IsChild node.parent node.name beside = subst (IsChild node.parent node.name) (get_or-take number tables.nodes k x small) child in
          let same : number ≡ k = proper.places.siblings_apart number node at k beside is_there (sym is.0) (sym is.1) in
          absurd (omega (arith, same, small)),
    ))

pub named_is : (reading : Reading) (number : ℕ) (node : Node) (elem : Elem) → IsProperSchema reading.tables → slice_get reading.tables.nodes number ≡ Some node →
    elem.name ≡ node.name → named reading node.parent elem ≡ Some (record { number = number; node = node; elem = elem })
named_is reading number node elem proper at name =
    ap (λ found. option_and_then (λ n. option_map (λ node. record { number = n; node = node; elem = elem }) (slice_get reading.tables.nodes n)) found)
    (ap (child_number reading.tables node.parent) name ∙ child_of_its_name reading.tables number node proper at)
    ∙ ap (option_map (λ node. record { number = number; node = node; elem = elem })) at

pub printed_is_named : PrintedIsNamed
printed_is_named reading number node value below proper at =
    ap (option_and_then (named reading node.parent)) (elem_of_child (printed_elem reading.tables number value below node))
    ∙ named_is reading number node (printed_elem reading.tables number value below node) proper at refl

pub printed_value_is_read : PrintedValueIsRead
printed_value_is_read reading number node [] = refl
printed_value_is_read reading number node (c ∷ cs) =
    ap (λ text. reading.value number text (value_bounds reading.tables number (c ∷ cs))) (append-nil (c ∷ cs))

and_false : (b : Bool) → (b && false) ≡ false
and_false true = refl
and_false false = refl

-- a leaf or a leaf-list entry without attributes whose text is a value has no fault of its own, and gives its merge
leaf_edits : (reading : Reading) (above earlier : List Step) (number : ℕ) (node : Node) (bounds : List Bound) (parts : List Part) (text : List ℕ)
    (children : Position → Result (List Edit) Cause) →
    let leaf : Node = record node { kind = Leaf } in
    let step : Step = record { node = number; keys = [] } in
    let it : Named = record { number = number; node = leaf; elem = record { name = node.name; bounds = bounds; attrs = []; parts = parts } } in
    named reading node.parent it.elem ≡ Some it → has_child parts ≡ false → reading.value number (whole_text parts) bounds ≡ Some text →
    StandsFree reading.tables earlier leaf step → ((within : Position) → children within ≡ Ok []) →
    element_edits reading (inline_at above node.parent) earlier it.elem children ≡ Ok (merge_at above step (Some text) ∷ [])
leaf_edits reading above earlier number node bounds parts text children named_as content value free none =
    simp (named_as, content, free, value, and_false, none)

entry_edits : (reading : Reading) (above earlier : List Step) (number : ℕ) (node : Node) (bounds : List Bound) (parts : List Part) (text : List ℕ)
    (children : Position → Result (List Edit) Cause) →
    let entry : Node = record node { kind = LeafList } in
    let step : Step = record { node = number; keys = text ∷ [] } in
    let it : Named = record { number = number; node = entry; elem = record { name = node.name; bounds = bounds; attrs = []; parts = parts } } in
    named reading node.parent it.elem ≡ Some it → has_child parts ≡ false → reading.value number (whole_text parts) bounds ≡ Some text →
    StandsFree reading.tables earlier entry step → ((within : Position) → children within ≡ Ok []) →
    element_edits reading (inline_at above node.parent) earlier it.elem children ≡ Ok (merge_at above step (Some text) ∷ [])
entry_edits reading above earlier number node bounds parts text children named_as content value free none =
    simp (named_as, content, value, free, none)

container_edits : (reading : Reading) (above earlier : List Step) (number : ℕ) (node : Node) (presence : Bool) (parts : List Part)
    (children : Position → Result (List Edit) Cause) →
    let container : Node = record node { kind = Container presence } in
    let step : Step = record { node = number; keys = [] } in
    let it : Named = record { number = number; node = container; elem = record { name = node.name; bounds = []; attrs = []; parts = parts } } in
    named reading node.parent it.elem ≡ Some it → has_text parts ≡ false → StandsFree reading.tables earlier container step →
    element_edits reading (inline_at above node.parent) earlier it.elem children
    ≡ if_read (λ edits. merge_at above step None ∷ edits) (children (inline_at (above ++ step ∷ []) (Some number)))
container_edits reading above earlier number node presence parts children named_as content free =
    simp (named_as, content, free)

-- the parts of a text hold no element and give no edit
text_has_no_child : (text : List ℕ) → has_child (text_parts text ++ []) ≡ false
text_has_no_child [] = refl
text_has_no_child (c ∷ cs) = refl

text_is_whole : (text : List ℕ) → whole_text (text_parts text ++ []) ≡ text
text_is_whole [] = refl
text_is_whole (c ∷ cs) = append-nil (c ∷ cs)

text_gives_none : (reading : Reading) (text : List ℕ) (within : Position) → list_edits reading within [] (text_parts text ++ []) ≡ Ok []
text_gives_none reading [] within = refl
text_gives_none reading (c ∷ cs) within = refl

leaf_at : (reading : Reading) (above earlier : List Step) (number : ℕ) (node : Node) (text : List ℕ) →
    let leaf : Node = record node { kind = Leaf } in
    let step : Step = record { node = number; keys = [] } in
    IsProperSchema reading.tables → slice_get reading.tables.nodes number ≡ Some leaf →
    reading.value number text (value_bounds reading.tables number text) ≡ Some text → StandsFree reading.tables earlier leaf step →
    part_edits reading (inline_at above node.parent) earlier (node_part reading.tables number (Some text) [] leaf)
    ≡ Ok (merge_at above step (Some text) ∷ [])
leaf_at reading above earlier number node text proper at value free =
    let bounds : List Bound = value_bounds reading.tables number text in
    let parts : List Part = text_parts text ++ [] in
    let elem : Elem = record { name = node.name; bounds = bounds; attrs = []; parts = parts } in
    child_is_element reading (inline_at above node.parent) earlier elem
    ∙ leaf_edits reading above earlier number node bounds parts text (λ within. list_edits reading within [] parts)
    (named_is reading number (record node { kind = Leaf }) elem proper at refl) (text_has_no_child text)
    (ap (λ whole. reading.value number whole bounds) (text_is_whole text) ∙ value) free (text_gives_none reading text)

pub leaf_is_read_back : LeafIsReadBack
leaf_is_read_back reading above earlier number node text proper at leaf value free =
    let same : record node { kind = Leaf } ≡ node = ap (λ kind. record node { kind = kind }) (sym leaf) in
    let step : Step = record { node = number; keys = [] } in
    subst (λ (n : Node). part_edits reading (inline_at above node.parent) earlier (node_part reading.tables number (Some text) [] n)
    ≡ Ok (merge_at above step (Some text) ∷ [])) same
    (leaf_at reading above earlier number node text proper (at ∙ ap Some (sym same)) value
    (subst (λ (n : Node). StandsFree reading.tables earlier n step) (sym same) free))

entry_at : (reading : Reading) (above earlier : List Step) (number : ℕ) (node : Node) (text : List ℕ) →
    let entry : Node = record node { kind = LeafList } in
    let step : Step = record { node = number; keys = text ∷ [] } in
    IsProperSchema reading.tables → slice_get reading.tables.nodes number ≡ Some entry →
    reading.value number text (value_bounds reading.tables number text) ≡ Some text → StandsFree reading.tables earlier entry step →
    part_edits reading (inline_at above node.parent) earlier (node_part reading.tables number (Some text) [] entry)
    ≡ Ok (merge_at above step (Some text) ∷ [])
entry_at reading above earlier number node text proper at value free =
    let bounds : List Bound = value_bounds reading.tables number text in
    let parts : List Part = text_parts text ++ [] in
    let elem : Elem = record { name = node.name; bounds = bounds; attrs = []; parts = parts } in
    child_is_element reading (inline_at above node.parent) earlier elem
    ∙ entry_edits reading above earlier number node bounds parts text (λ within. list_edits reading within [] parts)
    (named_is reading number (record node { kind = LeafList }) elem proper at refl) (text_has_no_child text)
    (ap (λ whole. reading.value number whole bounds) (text_is_whole text) ∙ value) free (text_gives_none reading text)

pub leaf_list_is_read_back : LeafListIsReadBack
leaf_list_is_read_back reading above earlier number node text proper at entry value free =
    let same : record node { kind = LeafList } ≡ node = ap (λ kind. record node { kind = kind }) (sym entry) in
    let step : Step = record { node = number; keys = text ∷ [] } in
    subst (λ (n : Node). part_edits reading (inline_at above node.parent) earlier (node_part reading.tables number (Some text) [] n)
    ≡ Ok (merge_at above step (Some text) ∷ [])) same
    (entry_at reading above earlier number node text proper (at ∙ ap Some (sym same)) value
    (subst (λ (n : Node). StandsFree reading.tables earlier n step) (sym same) free))

container_at : (reading : Reading) (above earlier : List Step) (number : ℕ) (node : Node) (presence : Bool) (below : List Part) →
    let container : Node = record node { kind = Container presence } in
    let step : Step = record { node = number; keys = [] } in
    IsProperSchema reading.tables → slice_get reading.tables.nodes number ≡ Some container → has_text below ≡ false →
    StandsFree reading.tables earlier container step →
    part_edits reading (inline_at above node.parent) earlier (node_part reading.tables number None below container)
    ≡ if_read (λ edits. merge_at above step None ∷ edits) (list_edits reading (inline_at (above ++ step ∷ []) (Some number)) [] below)
container_at reading above earlier number node presence below proper at content free =
    let elem : Elem = record { name = node.name; bounds = []; attrs = []; parts = below } in
    child_is_element reading (inline_at above node.parent) earlier elem
    ∙ container_edits reading above earlier number node presence below (λ within. list_edits reading within [] below)
    (named_is reading number (record node { kind = Container presence }) elem proper at refl) content free

pub container_is_read_back : ContainerIsReadBack
container_is_read_back reading above earlier number node presence below proper at container content free =
    let same : record node { kind = Container presence } ≡ node = ap (λ kind. record node { kind = kind }) (sym container) in
    let step : Step = record { node = number; keys = [] } in
    subst (λ (n : Node). part_edits reading (inline_at above node.parent) earlier (node_part reading.tables number None below n)
    ≡ if_read (λ edits. merge_at above step None ∷ edits) (list_edits reading (inline_at (above ++ step ∷ []) (Some number)) [] below)) same
    (container_at reading above earlier number node presence below proper (at ∙ ap Some (sym same)) content
    (subst (λ (n : Node). StandsFree reading.tables earlier n step) (sym same) free))
