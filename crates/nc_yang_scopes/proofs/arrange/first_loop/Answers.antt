use Rattle.std.proofs.Common.{get_or, subst}
use Rattle.nc_yang_scopes.specs.declared.kinds.Defined.TheVariants.{Modules}
use Rattle.nc_yang_scopes.specs.inner.Links.{Judges}
use Rattle.nc_yang_scopes.proofs.Arranging.{sorts_all, sorts_more}
use Rattle.nc_yang_scopes.proofs.arrange.first_loop.Goals as goal

pub loop-sort-preserved : goal.loop-sort-preserved
loop-sort-preserved c =
    let sorts = c.all_defined-sort-items.result.now in
    sorts_more c.args.scopes.now.texts sorts c.loop-sort.sort-index Modules c.loop-sort-test.true
    (subst (Judges c.args.scopes.now.texts (get_or sorts c.loop-sort.sort-index Modules)) c.in_default.is c.in_ok-found.ensures)
    c.loop-sort.invariant

pub returns : goal.returns
returns c =
    sorts_all c.args.scopes.now.texts c.all_defined-sort-items.result.now c.loop-sort.sort-index c.all_defined-sort-items.ensures c.loop-sort-test.false
    c.loop-sort.invariant
