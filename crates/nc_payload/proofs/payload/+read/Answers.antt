use Rattle.std.proofs.Common.{List, [], Result, sym, subst}
use Rattle.std.proofs.lemmas.Result.{err_from_is_err_and}
use Rattle.std.specs.Prelude.{option_map}
use Rattle.nc_message.specs.declared.tree.Elem.{Elem}
use Rattle.nc_message.specs.declared.tree.Part.{Part}
use Rattle.nc_protocol.specs.Elements.{named, named_part, step_of}
use Rattle.nc_protocol.specs.Payload.{part_edits, elem_edits, list_edits}
use Rattle.nc_payload.specs.inner.Reads.{ReadsAs}
use Rattle.nc_protocol.specs.Payload.{reading_of}
use Rattle.nc_payload.proofs.Recursion.{child_read, elem_below, elem_read, part_more}
use Rattle.nc_payload.proofs.payload.+read.Goals as goal

pub read_elem-returns-in_err-below : goal.read_elem-returns-in_err-below
read_elem-returns-in_err-below t c =
    let p = err_from_is_err_and c.from_residual-in_err-below.result c.from_residual-in_err-below.ensures.1 in
    rw (p.1, p.2) (elem_below (reading_of c.args.schema.now) c.args.at.now c.args.earlier.now c.args.elem.now c.in_ok-found.found c.in_err-below.field-0.0 c.in_ok-found.ensures c.in_err-below.ensures)

pub read_elem-returns : goal.read_elem-returns
read_elem-returns t c =
    elem_read (reading_of c.args.schema.now) c.args.at.now c.args.earlier.now c.args.elem.now c.in_ok-found.found c.in_ok-below.below c.in_ok-with_below.field-0
    c.in_ok-found.ensures c.in_ok-below.ensures c.in_ok-with_below.ensures.edits c.in_ok-with_below.ensures.step

pub read_part-returns-in-Child : goal.read_part-returns-in-Child
read_part-returns-in-Child t c =
    let reading = reading_of c.args.schema.now in
    let at = c.args.at.now in
    let earlier = c.args.earlier.now in
    let P : Elem → Type 0 = λ e. ReadsAs (elem_edits reading at earlier e) (option_map (step_of reading at.under) (named reading at.parent e)) c.read_elem.result in
    let Q : Part → Type 0 = λ x. ReadsAs (part_edits reading at earlier x) (option_map (step_of reading at.under) (named_part reading at.parent x)) c.read_elem.result in
    subst Q (sym c.in-Child.is) (child_read reading at earlier c.in-Child.elem c.read_elem.result (subst P c.get.ensures c.read_elem.ensures))

pub read_parts-loop-part-preserved : goal.read_parts-loop-part-preserved
read_parts-loop-part-preserved t c =
    part_more (reading_of c.args.schema.now) c.args.at.now c.as_slice-part-items.result.now c.loop-part.part-index c.part-item.result c.loop-part.edits c.in_ok-read.read c.append.new.self
    c.loop-part.earlier c.in_ok-earlier.earlier (list_edits (reading_of c.args.schema.now) c.args.at.now [] c.args.parts.now) c.loop-part-test.true c.part-item.is c.in_ok-read.ensures c.in_ok-append.ensures.ok
    c.in_ok-earlier.ensures c.loop-part.invariant
