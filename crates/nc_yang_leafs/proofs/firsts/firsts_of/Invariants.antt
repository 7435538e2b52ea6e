use Rattle.std.proofs.Common.{◌≡◌, length}
use Rattle.nc_yang_leafs.specs.inner.Firsts.{AreFirsts}
use Rattle.nc_yang_leafs.proofs.firsts.firsts_of.Given as goal

abbrev pub invariant-loop-plan : goal.invariant-loop-plan
invariant-loop-plan g l = record {
  are : AreFirsts (g.D.Derives.derived l.identities) (g.D.Derives.located l.identities) l.meanings.plans l.marks l.firsts;
  counted : length l.firsts ≡ l.plan;
}
