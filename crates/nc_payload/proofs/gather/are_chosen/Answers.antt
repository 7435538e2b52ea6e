use Rattle.std.proofs.Common.{◌≡◌, Some}
use Rattle.nc_schema.specs.declared.node.Case.{Case}
use Rattle.nc_payload.specs.inner.Gathered.{case_of}
use Rattle.nc_payload.proofs.GatherLemmas.{all_more}
use Rattle.nc_payload.proofs.gather.are_chosen.Goals as goal

pub loop-case-preserved : goal.loop-case-preserved
loop-case-preserved c =
    all_more (λ (it : Case). case_of c.args.turns.now c.args.above.now it.choice ≡ Some it.case) c.as_slice-case-items.result.now c.loop-case.case-index _
    c.loop-case-test.true (c.in_ok-is_chosen.ensures c.if-not-branch.false) c.loop-case.invariant
