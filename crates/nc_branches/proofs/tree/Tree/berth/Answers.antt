use Rattle.std.proofs.Common.{◌∙◌}
use Rattle.nc_branches.specs.inner.Layings.{anchor_of}
use Rattle.nc_branches.specs.inner.Turning.{entry_at}
use Rattle.nc_branches.proofs.tree.Tree.berth.Goals as goal

pub returns-clause-berth : goal.returns-clause-berth
returns-clause-berth c = record {
  depth = c.saturating_sub-depth.result;
  step = c.in-Some.last.now;
  last = c.in-Some.ensures;
  goes = c.is_new.ensures c.if-not-is_new.false;
  turn_is = c.turn_of-turn.ensures;
  beside_is = c.in_ok-beside.ensures
      ∙ (λ i. entry_at (c.head.ensures i) c.in-Some.last.now.node (anchor_of c.args.place.now));
}
