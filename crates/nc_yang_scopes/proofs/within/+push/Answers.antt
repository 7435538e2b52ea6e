use Rattle.std.proofs.Common.{◌≡◌, ◌∙◌, ap, sym}
use Rattle.std.specs.Prelude.{true, false}
use Rattle.nc_yang_statements.specs.Keywords.{is_closed}
use Rattle.nc_yang_statements.specs.Statements.{kind}
use Rattle.nc_yang_scopes.proofs.Misnaming.{child_there}
use Rattle.nc_yang_scopes.proofs.Adding.{all_ends, closed_ends, one_more, own_number}
use Rattle.nc_yang_scopes.proofs.within.+push.Goals as goal

pub returns-then-is_closed : goal.returns-then-is_closed
returns-then-is_closed t c = λ l here.
    let shut : is_closed (kind c.args.statement.now) ≡ true = sym (c.if-is_closed.ensures ∙ ap is_closed c.kind.ensures) in
    closed_ends c.args.scopes.now c.args.number c.args.statement.now l c.requires here c.args.numbers.now c.push.new.self shut
    (own_number c.args.scopes.now c.args.number c.args.statement.now l c.requires here c.args.numbers.now c.push.new.self c.in_ok-push.ensures.ok)

pub loop-place-init : goal.loop-place-init
loop-place-init t c = λ l here.
    own_number c.args.scopes.now c.args.number c.args.statement.now l c.requires here c.args.numbers.now c.push.new.self c.in_ok-push.ensures.ok

pub child-child-requires : goal.child-child-requires
child-child-requires t c =
    child_there c.args.scopes.now c.args.number c.args.statement.now c.requires c.as_slice-among.result.now c.as_slice-among.ensures c.loop-place.place
    c.index-among-place.result c.loop-place-test.true c.index-among-place.is

pub loop-place-preserved : goal.loop-place-preserved
loop-place-preserved t c = λ l here.
    let opened : is_closed (kind c.args.statement.now) ≡ false = sym (c.if-is_closed.ensures ∙ ap is_closed c.kind.ensures) in
    one_more c.args.scopes.now c.args.number c.args.statement.now l c.requires here c.as_slice-among.result.now c.as_slice-among.ensures
    c.loop-place.place c.child-child.result c.index-among-place.result c.args.numbers.now c.loop-place.numbers c.push-in-loop-place.new.numbers
    opened c.loop-place-test.true c.index-among-place.is c.child-child.ensures c.in_ok-push-2.ensures (c.loop-place.invariant l here)

pub returns : goal.returns
returns t c = λ l here.
    all_ends c.args.scopes.now c.args.number c.args.statement.now l c.requires here c.as_slice-among.result.now c.as_slice-among.ensures
    c.loop-place.place c.args.numbers.now c.loop-place.numbers c.loop-place-test.false (c.loop-place.invariant l here)
