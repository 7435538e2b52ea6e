use Rattle.std.proofs.Common.{◌≡◌, subst}
use Rattle.nc_yang_leafs.specs.Patterns.{with_numbers}
use Rattle.nc_yang_leafs.specs.inner.Sites.{work}
use Rattle.nc_yang_leafs.proofs.EntryLemmas.{enters_bases, enters_finished, enters_leafref}
use Rattle.nc_yang_leafs.proofs.entry.entry.Goals as goal

pub returns-in_ok-finished-in-Finished-clause-ok : goal.returns-in_ok-finished-in-Finished-clause-ok
returns-in_ok-finished-in-Finished-clause-ok g c =
    enters_finished (g.D.Derives.derived c.args.identities.now) (work c.args.site.now c.args.node) c.args.table.now c.args.planned.now _ c.in_ok-finished-in-Finished.field-0 _ _
    c.in-Finished.is (subst (λ z. c.in_ok-finished-in-Finished.field-0 ≡ with_numbers z c.in-Finished.one) c.as_slice.ensures c.in_ok-finished-in-Finished.ensures)

pub returns-in_ok-names-in-Bases-clause-ok : goal.returns-in_ok-names-in-Bases-clause-ok
returns-in_ok-names-in-Bases-clause-ok g c =
    enters_bases (g.D.Derives.derived c.args.identities.now) (work c.args.site.now c.args.node) c.args.table.now c.args.planned.now _ c.as_slice-in-Bases.result.now c.in_ok-names-in-Bases.field-0
    (g.D.Derives.located c.args.identities.now) c.in-Bases.is c.as_slice-in-Bases.ensures c.requires.located c.in_ok-names-in-Bases.ensures

pub returns-in-Leafref-clause-ok : goal.returns-in-Leafref-clause-ok
returns-in-Leafref-clause-ok g c =
    enters_leafref (g.D.Derives.derived c.args.identities.now) (work c.args.site.now c.args.node) c.args.table.now c.args.planned.now _ _ c.in-Leafref.is c.leafref.result c.leafref.ensures.ok
