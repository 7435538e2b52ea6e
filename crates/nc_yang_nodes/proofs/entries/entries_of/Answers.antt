use Rattle.std.proofs.Common.{length, sym, subst, ap, arith}
use Rattle.std.proofs.lemmas.List.{length-append}
use Rattle.nc_yang_nodes.specs.declared.table.Entry.{Entry}
use Rattle.nc_yang_nodes.specs.FeaturesOn.{is_on}
use Rattle.nc_yang_nodes.specs.inner.Tables.{AreStored}
use Rattle.nc_yang_nodes.proofs.TableLemmas.{stored_more}
use Rattle.nc_yang_nodes.proofs.entries.entries_of.Goals as goal

pub loop-number-preserved : goal.loop-number-preserved
loop-number-preserved c = (
  subst (AreStored c.args.scopes.now (is_on c.args.features.now)) (sym c.in_ok-push.ensures.ok)
      (stored_more c.args.scopes.now (is_on c.args.features.now) c.loop-number.entries c.loop-number.number c.entry_of.result c.loop-number.invariant.0 c.loop-number.invariant.1 c.entry_of.ensures),
  omega (arith, ap length c.in_ok-push.ensures.ok, length-append {A = Entry}),
)
