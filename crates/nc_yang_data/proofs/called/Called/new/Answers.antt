use Rattle.nc_yang_data.proofs.TwinLemmas.{none_called}
use Rattle.nc_yang_data.proofs.called.Called.new.Goals as goal

pub returns : goal.returns
returns c = none_called c.new.result c.new-2.result c.new-3.result c.new.ensures c.new-2.ensures c.new-3.ensures
