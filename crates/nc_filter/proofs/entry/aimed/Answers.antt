use Rattle.std.proofs.Common.{◌∙◌, sym}
use Rattle.nc_filter.proofs.AimLemmas.{aim_found, aim_next}
use Rattle.nc_filter.proofs.entry.aimed.Goals as goal

pub returns-then-has_entries : goal.returns-then-has_entries
returns-then-has_entries c =
    aim_found c.args.schema.now c.args.filter.now c.loop-at.elems c.loop-at.level c.as_slice.result.now c.loop-at.above c.loop-at.parent c.in-Some.elem c.in-Some-child_of.number
    c.in_ok-level-2.level c.loop-at.invariant c.as_slice.ensures c.in-Some.ensures c.in-Some-child_of.ensures c.in_ok-level-2.ensures

pub loop-at-preserved : goal.loop-at-preserved
loop-at-preserved c =
    aim_next c.args.schema.now c.args.filter.now c.loop-at.elems c.loop-at.level c.as_slice.result.now c.loop-at.above c.loop-at.parent c.in-Some.elem c.in-Some-child_of.number
    c.in_ok-level-2.level c.loop-at.invariant c.as_slice.ensures c.in-Some.ensures c.in-Some-child_of.ensures c.in_ok-level-2.ensures
    (sym c.has_entries.ensures ∙ c.if-has_entries.false) c.push.new.self c.push-in-loop-at.new.self c.step_to.result c.in_ok-push.ensures.ok c.step_to.ensures c.in_ok-push-2.ensures.ok
