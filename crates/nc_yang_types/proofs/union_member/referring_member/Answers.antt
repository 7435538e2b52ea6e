use Rattle.std.proofs.Common.{sym, ◌∙◌}
use Rattle.nc_yang_types.proofs.MemberLemmas.{member_found, member_step, members_all, no_union}
use Rattle.nc_yang_types.proofs.union_member.referring_member.Goals as goal

pub returns-then-not-is_union : goal.returns-then-not-is_union
returns-then-not-is_union c = λ on are l here.
    no_union c.args.scopes.now c.args.meanings.now c.args.number c.args.statement.now c.requires on are l here (sym c.is_union.ensures ∙ c.if-not-is_union.true)

pub returns-then-is_referring : goal.returns-then-is_referring
returns-then-is_referring c = λ on are l here.
    member_found c.args.scopes.now c.args.meanings.now c.args.number c.args.statement.now c.requires on are l here c.as_slice-among.result.now c.as_slice-among.ensures
    c.loop-place.place c.child-child.result c.index-among-place.result c.fault.result (sym c.is_union.ensures ∙ c.if-not-is_union.false) c.loop-place-test.true c.index-among-place.is
    c.child-child.ensures (sym c.if-is_referring.ensures) c.fault.ensures

pub loop-place-preserved : goal.loop-place-preserved
loop-place-preserved c = λ on are l here.
    member_step c.args.scopes.now c.args.meanings.now c.args.number c.args.statement.now c.requires on are l here c.as_slice-among.result.now c.as_slice-among.ensures
    c.loop-place.place c.child-child.result c.index-among-place.result c.loop-place-test.true c.index-among-place.is
    c.child-child.ensures (sym c.if-is_referring.ensures) (c.loop-place.invariant on are l here)

pub returns : goal.returns
returns c = λ on are l here.
    members_all c.args.scopes.now c.args.meanings.now c.args.number c.args.statement.now c.requires on are l here c.as_slice-among.result.now c.as_slice-among.ensures
    c.loop-place.place c.loop-place-test.false (c.loop-place.invariant on are l here)
