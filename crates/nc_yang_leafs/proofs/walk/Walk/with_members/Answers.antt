use Rattle.std.proofs.Common.{refl}
use Rattle.nc_yang_leafs.proofs.WalkLemmas.{members_all, members_more, members_none}
use Rattle.nc_yang_leafs.proofs.walk.Walk.with_members.Goals as goal

pub loop-member-init : goal.loop-member-init
loop-member-init c = members_none c.args.meanings.now.findings c.args.marks.now c.args.self.now

pub loop-member-preserved : goal.loop-member-preserved
loop-member-preserved c =
    members_more c.args.meanings.now.findings c.args.marks.now c.args.members.now c.loop-member.member-index _ c.args.self.now c.loop-member.self c.with_member.new.self
    c.loop-member-test.true refl c.loop-member.invariant c.in_ok-with_member.ensures

pub returns : goal.returns
returns c = members_all c.args.meanings.now.findings c.args.marks.now c.args.members.now c.loop-member.member-index c.args.self.now c.loop-member.self c.loop-member-test.false c.loop-member.invariant
