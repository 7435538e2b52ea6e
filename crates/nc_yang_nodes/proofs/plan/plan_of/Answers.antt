use Rattle.std.proofs.lemmas.Result.{err_from_is_err_and}
use Rattle.nc_yang_nodes.specs.Plans.{one_more}
use Rattle.nc_yang_nodes.specs.inner.Tables.{test_of}
use Rattle.nc_yang_nodes.proofs.Walking.{begins, stops_here}
use Rattle.nc_yang_nodes.proofs.plan.plan_of.Goals as goal

pub loop-text-init : goal.loop-text-init
loop-text-init c =
    let h = begins c.in_ok-table.table.scopes.now (test_of c.in_ok-table.table) c.new-walk.result c.new-walk.ensures.plan in
    record { gives = h.0; room = h.1; ended = c.new-walk.ensures.frames }

pub loop-text-preserved : goal.loop-text-preserved
loop-text-preserved c = record {
  gives =
      one_more c.loop-text.text c.loop-text.walk.plan c.add_text.new.self.plan c.in_ok-add_text.ensures.adds.top c.loop-text.invariant.gives
      c.in_ok-add_text.ensures.adds.is_root c.in_ok-add_text.ensures.adds.gives;
  room = c.in_ok-add_text.ensures.adds.room;
  ended = c.in_ok-add_text.ensures.adds.ended;
}

pub returns-in_err-add_text : goal.returns-in_err-add_text
returns-in_err-add_text c =
    let p = err_from_is_err_and c.from_residual-in_err-add_text.result c.from_residual-in_err-add_text.ensures.1 in
    rw (p.1, p.2) (stops_here c.args.scopes.now c.args.features.now c.in_ok-table.table c.loop-text.text c.loop-text.walk.plan c.in_err-add_text.field-0.0
    c.in_ok-table.ensures c.loop-text.invariant.gives c.in_err-add_text.ensures.adds)
