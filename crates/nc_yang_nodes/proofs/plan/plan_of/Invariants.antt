use Rattle.std.proofs.Common.{◌≡◌, []}
use Rattle.nc_yang_nodes.specs.Plans.{GivesTexts, HasRoom}
use Rattle.nc_yang_nodes.specs.inner.Tables.{test_of}
use Rattle.nc_yang_nodes.proofs.plan.plan_of.Given as goal

abbrev pub invariant-loop-text : goal.invariant-loop-text
invariant-loop-text l = record {
  gives : GivesTexts l.table.scopes.now (test_of l.table) l.text l.walk.plan;
  room : HasRoom l.walk.plan;
  ended : l.walk.frames ≡ [];
}
