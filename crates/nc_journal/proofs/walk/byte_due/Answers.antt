use Rattle.nc_journal.proofs.Looking.{none_past}
use Rattle.nc_journal.proofs.walk.byte_due.Goals as goal

pub returns-in-None-clause-none : goal.returns-in-None-clause-none
returns-in-None-clause-none g c = λ file told. none_past file c.args.at _ (c.in_ok-byte.ensures.byte file told) c.in-None.is
