use Rattle.nc_changes.specs.inner.Common.{rows_of}
use Rattle.nc_changes.proofs.MarkLemmas.{apart_asked}
use Rattle.nc_changes.proofs.asked.rows_looked_at.Goals as goal

pub returns : goal.returns
returns c =
    apart_asked c.args.schema.now c.args.old.now (rows_of c.args.above.now) (rows_of c.args.gone.now) (rows_of c.args.come.now)
    (rows_of c.args.below.now) (rows_of c.in_ok-fewer.fewer) c.requires (c.in_ok-apart.ensures c.if-not-apart.false) c.in_ok-fewer.ensures
