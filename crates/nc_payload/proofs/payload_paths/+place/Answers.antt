use Rattle.std.proofs.Common.{◌∙◌, List, Some, sym, subst, ap}
use Rattle.std.proofs.lemmas.Result.{on_ok_weaker}
use Rattle.std.specs.List.{flat_map}
use Rattle.std.specs.Prelude.{OnOk, option_map}
use Rattle.nc_message.specs.declared.tree.Elem.{Elem}
use Rattle.nc_message.specs.declared.tree.Part.{Part}
use Rattle.nc_names.specs.declared.path.Step.{Step}
use Rattle.nc_protocol.specs.Payload.{part_places, reading_of}
use Rattle.nc_payload.specs.inner.Places.{AddsPlace, AddsPlaces, HasAbove, inside_places}
use Rattle.nc_payload.specs.inner.Reads.{meaning}
use Rattle.nc_payload.proofs.PlacesLemmas.{above_read, child_is_place, element_adds, part_added}
use Rattle.nc_payload.proofs.payload_paths.+place.Goals as goal

pub add_elem-returns : goal.add_elem-returns
add_elem-returns t c =
    let reading = reading_of c.args.schema.now in
    let above = c.args.above.now in
    let it = meaning c.in-Some.named in
    let steps = c.in-Some-2.steps in
    let before = c.args.places.now in
    let mid = c.take.new.self in
    let is = sym (ap (option_map meaning) c.in-Some.is) ∙ c.find_named.ensures in
    let ends = sym c.in-Some-2.is ∙ c.in_ok-steps.ensures in
    let added : AddsPlace before mid steps = subst (AddsPlace before mid) c.in_ok-copy.ensures c.in_ok-take.ensures in
    on_ok_weaker c.add_parts.result
    (λ more there. element_adds reading above c.args.parent c.args.elem.now it steps before mid c.add_parts.new.places is ends there added (more (above_read reading above it steps before mid ends there added)))
    c.add_parts.ensures

pub add_part-returns-in-Child : goal.add_part-returns-in-Child
add_part-returns-in-Child t c =
    let reading = reading_of c.args.schema.now in
    let above = c.args.above.now in
    let P : List (List Step) → Type 0 = λ list. OnOk c.add_elem.result (HasAbove c.args.places.now above → AddsPlaces c.args.places.now c.add_elem.new.places list) in
    let here : P (inside_places reading above c.args.parent c.in-Child.elem) = subst (λ (e : Elem). P (inside_places reading above c.args.parent e)) c.get.ensures c.add_elem.ensures in
    subst (λ (part : Part). P (part_places reading above c.args.parent part)) (sym c.in-Child.is)
    (subst P (sym (child_is_place reading above c.args.parent c.in-Child.elem)) here)

pub add_parts-loop-part-preserved : goal.add_parts-loop-part-preserved
add_parts-loop-part-preserved t c =
    part_added (part_places (reading_of c.args.schema.now) c.args.above.now c.args.parent) c.as_slice-part-items.result.now c.loop-part.part-index c.part-item.result c.args.above.now
    c.args.places.now c.loop-part.places c.add_part.new.places c.loop-part-test.true c.part-item.is c.loop-part.invariant c.in_ok-add_part.ensures
