use Rattle.nc_yang_types.proofs.CutLemmas.{splits_at_dots}
use Rattle.nc_yang_types.proofs.range.split_dots.Goals as goal

pub returns : goal.returns
returns c = splits_at_dots c.args.text.now c.split_once.result c.split_once.ensures.cases
