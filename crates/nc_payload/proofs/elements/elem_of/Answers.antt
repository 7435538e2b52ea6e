use Rattle.std.proofs.Common.{◌≡◌, Some, sym, subst}
use Rattle.nc_message.specs.declared.tree.Elem.{Elem}
use Rattle.nc_message.specs.declared.tree.Part.{Part}
use Rattle.nc_protocol.specs.Elements.{elem_of}
use Rattle.nc_payload.proofs.Naming.{elem_is}
use Rattle.nc_payload.proofs.elements.elem_of.Goals as goal

pub returns-in-Child : goal.returns-in-Child
returns-in-Child c =
    let Q : Part → Type 0 = λ x. Some c.in-Child.elem ≡ elem_of x in
    let P : Elem → Type 0 = λ x. Some x ≡ elem_of c.args.part.now in
    subst P (sym c.get.ensures) (subst Q (sym c.in-Child.is) (sym (elem_is c.in-Child.elem)))
