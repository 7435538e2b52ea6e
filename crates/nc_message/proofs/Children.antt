-- The text of a child, by the rows of elements and parts that a tree is made of, is that of the element.
use Rattle.std.proofs.Common.{◌≡◌, ℕ, List, ◌++◌, ap, ◌∙◌, refl}
use Rattle.std.specs.List.{flat_map}
use mathlib.Core.Former.{Count}
use Rattle.nc_message.specs.declared.tree.Elem.{Elem}
use Rattle.nc_message.specs.declared.tree.Part.{Part, Child', Chars, Row_of-Part, end_of-Part, more_of-Part}
use Rattle.nc_message.specs.declared.tree.Part.TheVariants.{Child}
use Rattle.nc_message.specs.declared.tree.Part.TheBlock.{Row_of-Elem, end_of-Elem, more_of-Elem, items-the_row-Part, items_hidden-the_row-Part-0}
use Rattle.nc_message.specs.Written.{written_part, written_parts, written_elem, element}
use Rattle.nc_message.specs.declared.tree.Part.TheBlock.{hidden-the_row-Part-0, hidden-the_row-Elem-1}
use denote.Hole.Carrier.{hidden}

written_parts_is : (space : List ℕ) (n : _) (row : Row_of-Part n) →
    written_parts space row ≡ flat_map (written_part space) (items-the_row-Part n row)
written_parts_is space n end_of-Part = refl
written_parts_is space n (more_of-Part part rest) =
    ap (λ x. written_part space part ++ x) (written_parts_is space _ rest)

abbrev row_of_child : {n : _} → Row_of-Elem n → (m : Count) × Row_of-Part m
row_of_child (more_of-Elem name bounds attrs shape row none) = (_, row)
row_of_child end_of-Elem = (_, end_of-Part)

abbrev row_of : Part → (n : Count) × Row_of-Part n
row_of (Child' u child) = row_of_child child
row_of (Chars t) = (_, end_of-Part)

pub written_child_is : (space : List ℕ) (e : Elem) → written_part space (Child e) ≡ written_elem space e
unfolding hidden-the_row-Part-0 hidden-the_row-Elem-1 hidden
written_child_is space e =
    let row = row_of (Child e) in
    ap (element space e.name e.bounds e.attrs (items-the_row-Part row.0 row.1))
    (written_parts_is e.name.space row.0 row.1)
    ∙ ap (λ ps. element space e.name e.bounds e.attrs ps (flat_map (written_part e.name.space) ps))
    (items_hidden-the_row-Part-0 e.parts)
