use Rattle.std.proofs.Common.{refl, sym, subst}
use Rattle.nc_yang_nodes.specs.inner.Tables.{AreBarren, test_of}
use Rattle.nc_yang_nodes.proofs.TableLemmas.{mark_more}
use Rattle.nc_yang_nodes.proofs.table.Table.marked.Goals as goal

pub returns-then-plans_nothing : goal.returns-then-plans_nothing
returns-then-plans_nothing c = record {
  has_scopes = refl;
  has_features = refl;
  is = record {
    stored = c.requires.stored;
    barren =
        subst (AreBarren c.args.self.scopes.now (test_of c.args.self)) (sym c.set.ensures)
        (mark_more c.args.self.scopes.now (test_of c.args.self) c.args.self.barren c.args.number c.requires.barren (c.plans_nothing.ensures c.if-plans_nothing.true));
  };
}
