-- The edits of a child, by the rows of elements and parts that a tree is made of, are those of the element.
use Rattle.std.proofs.Common.{◌≡◌, List, [], ap, ◌∙◌, refl}
use Rattle.std.specs.Prelude.{Result}
use mathlib.Core.Former.{Count}
use Rattle.nc_message.specs.declared.tree.Elem.{Elem}
use Rattle.nc_message.specs.declared.tree.Part.{Part, Child', Chars, Row_of-Part, end_of-Part, more_of-Part}
use Rattle.nc_message.specs.declared.tree.Part.TheVariants.{Child}
use Rattle.nc_message.specs.declared.tree.Part.TheBlock.{Row_of-Elem, end_of-Elem, more_of-Elem, items-the_row-Part, items_hidden-the_row-Part-0}
use Rattle.nc_message.specs.declared.tree.Part.TheBlock.{hidden-the_row-Part-0, hidden-the_row-Elem-1}
use denote.Hole.Carrier.{hidden}
use Rattle.nc_names.specs.declared.path.Step.{Step}
use Rattle.nc_protocol.specs.declared.edit.Edit.{Edit}
use Rattle.nc_protocol.specs.declared.position.Position.{Position}
use Rattle.nc_protocol.specs.declared.request.Cause.{Cause}
use Rattle.nc_protocol.specs.Elements.{Reading, with_step}
use Rattle.nc_protocol.specs.Laws.{ChildIsElement}
use Rattle.nc_protocol.specs.Payload.{part_edits, parts_edits, list_edits, element_edits, with_more}

pub parts_are : (reading : Reading) (at : Position) (earlier : List Step) (n : _) (row : Row_of-Part n) →
    parts_edits reading at earlier row ≡ list_edits reading at earlier (items-the_row-Part n row)
parts_are reading at earlier n end_of-Part = refl
parts_are reading at earlier n (more_of-Part part rest) =
    ap (λ more. with_more (part_edits reading at earlier part) more) (parts_are reading at (with_step reading at earlier part) _ rest)

abbrev row_of_child : {n : _} → Row_of-Elem n → (m : Count) × Row_of-Part m
row_of_child (more_of-Elem name bounds attrs shape row none) = (_, row)
row_of_child end_of-Elem = (_, end_of-Part)

abbrev row_of : Part → (n : Count) × Row_of-Part n
row_of (Child' u child) = row_of_child child
row_of (Chars t) = (_, end_of-Part)

pub child_is_element : ChildIsElement
unfolding hidden-the_row-Part-0 hidden-the_row-Elem-1 hidden
child_is_element reading at earlier e =
    let row = row_of (Child e) in
    let with_parts : List Part → Elem = λ ps. record { name = e.name; bounds = e.bounds; attrs = e.attrs; parts = ps } in
    ap (λ (f : Position → Result (List Edit) Cause). element_edits reading at earlier (with_parts (items-the_row-Part row.0 row.1)) f)
    (λ i within. parts_are reading within [] row.0 row.1 i)
    ∙ ap (λ (ps : List Part). element_edits reading at earlier (with_parts ps) (λ within. list_edits reading within [] ps))
    (items_hidden-the_row-Part-0 e.parts)
