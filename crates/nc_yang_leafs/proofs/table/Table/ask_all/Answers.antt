use Rattle.std.proofs.Common.{refl}
use Rattle.nc_yang_leafs.specs.inner.Sites.{work}
use Rattle.nc_yang_leafs.proofs.AskLemmas.{asked_turn}
use Rattle.nc_yang_leafs.proofs.table.Table.ask_all.Goals as goal

pub loop-member-preserved : goal.loop-member-preserved
loop-member-preserved c =
    asked_turn (work c.args.site.now c.args.node) c.args.members.now c.loop-member.member-index _ c.loop-member-test.true refl
    c.args.self.now c.loop-member.self c.ask_member.new.self c.loop-member.numbers c.push.new.self c.in_ok-ask_member.field-0
    c.loop-member.invariant c.in_ok-ask_member.ensures c.in_ok-push.ensures.ok
