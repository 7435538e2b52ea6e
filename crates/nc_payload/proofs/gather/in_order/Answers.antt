use Rattle.std.proofs.Common.{◌∙◌, List, [], ap, sym, take}
use Rattle.std.proofs.lemmas.List.{take_all}
use Rattle.std.specs.Prelude.{fold}
use Rattle.nc_names.specs.declared.path.Row.{Row}
use Rattle.nc_protocol.proofs.ListLemmas.{some_same}
use Rattle.nc_protocol.specs.Edited.{left_by}
use Rattle.nc_protocol.specs.declared.edit.Edit.{Edit}
use Rattle.nc_payload.proofs.GatherLemmas.{edit_more, rows_are}
use Rattle.nc_payload.proofs.gather.in_order.Goals as goal

pub loop-merge-init : goal.loop-merge-init
loop-merge-init c = c.in_ok-gathered.ensures c.args.schema.now c.in_ok-turns.turns

pub loop-merge-preserved : goal.loop-merge-preserved
loop-merge-preserved c =
    edit_more c.args.schema.now c.in_ok-turns.turns c.loop-merge.gathered c.take.new.self c.as_slice-merge-items.result.now c.loop-merge.merge-index c.merge-item.result
    c.loop-merge-test.true c.merge-item.is (c.in_ok-take.ensures c.if-not-branch.false) c.loop-merge.invariant

pub returns : goal.returns
returns c = λ rows is.
    let items = c.as_slice-merge-items.result.now in
    let left : List Edit → List Row = fold (left_by c.args.schema.now) [] in
    sym (some_same c.in_ok-into_rows.field-0 rows is) ∙ c.in_ok-into_rows.ensures
    ∙ rows_are c.args.schema.now c.in_ok-turns.turns c.loop-merge.gathered (left (take c.loop-merge.merge-index items)) c.loop-merge.invariant
    ∙ ap left (take_all c.loop-merge.merge-index items c.loop-merge-test.false ∙ c.as_slice-merge-items.ensures)
