use Rattle.nc_yang_scopes.proofs.NameLemmas.{modules_more}
use Rattle.nc_yang_scopes.proofs.names.modules.Goals as goal

pub loop-text-preserved : goal.loop-text-preserved
loop-text-preserved c =
    modules_more c.args.texts.now c.loop-text.text c.index-texts-text.result c.name.result.now c.loop-text.table c.in_ok-table.table
    c.loop-text-test.true c.index-texts-text.is c.name.ensures c.in_ok-table.ensures c.loop-text.invariant
