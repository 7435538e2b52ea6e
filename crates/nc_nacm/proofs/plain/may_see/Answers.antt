use Rattle.std.proofs.Common.{ap, sym, ◌∙◌, arith}
use Rattle.std.specs.List.{list_all}
use Rattle.nc_model.specs.Sight.{may_read}
use Rattle.nc_nacm.proofs.Steps.{past_beginnings, all_at, all_stops}
use Rattle.nc_nacm.proofs.plain.may_see.Goals as goal

pub returns-then-not-may_read : goal.returns-then-not-may_read
returns-then-not-may_read c =
    let p = may_read c.args.schema.now c.args.policy.now c.args.peer.now in
    all_stops p c.args.steps.now c.loop-at.at _ c.loop-at-test.true
    (ap p (sym c.first_steps.ensures) ∙ sym c.may_read.ensures ∙ c.if-not-may_read.true) c.loop-at.invariant

pub loop-at-preserved : goal.loop-at-preserved
loop-at-preserved c =
    let p = may_read c.args.schema.now c.args.policy.now c.args.peer.now in
    all_at p c.args.steps.now c.loop-at.at _ c.loop-at-test.true
    (ap p (sym c.first_steps.ensures) ∙ sym c.may_read.ensures ∙ c.if-not-may_read.false) c.loop-at.invariant

pub returns : goal.returns
returns c =
    let p = may_read c.args.schema.now c.args.policy.now c.args.peer.now in
    sym (ap (list_all p) (past_beginnings c.args.steps.now c.loop-at.at (omega arith))) ∙ c.loop-at.invariant
